-- Behind the header of a request nothing but its own message opens, unless a piece was forged or an id used twice.
use Rattle.std.proofs.Common.{◌≡◌, ℕ, suc, true, ◌⊎◌, List, [], ◌∷◌, ◌++◌, length, sym, refl, ap, ◌∙◌, inl, inr, ⊎_elim, append_assoc}
use Rattle.octets.proofs.Lists.{halves}
use Rattle.hkdf.specs.MessageKeys.{sealing_key}
use Rattle.format.specs.Corollaries.{ForgedOrReused, NothingElseBehindAHeader}
use Rattle.format.specs.Header.{header_bytes, header_of}
use Rattle.format.specs.Message.{frames, message}
use Rattle.format.specs.Piece.{seal_header}
use Rattle.format.specs.Request.{Pair, Request}
use Rattle.format.specs.Sealed.{Among, IdReused, all_good}
use Rattle.format.proofs.Accounted.{Outcome, what_opens}
use Rattle.format.proofs.Headers.{after_id}
use Rattle.format.proofs.Pieces.{own_key}
use Rattle.format.proofs.Requests.{Good, good_among, request_discrete}

-- the id stands in a header at a fixed place
same_id : (r q : Request) (x y : List ℕ) → Good r → Good q → header_bytes (header_of r) ++ x ≡ header_bytes (header_of q) ++ y → r.id ≡ q.id
same_id r q x y gr gq e =
    let f = gr.fits.id_long in
    let g = gq.fits.id_long in
    let a = halves (2 ∷ (4 ∷ (120 ∷ []))) (2 ∷ (4 ∷ (120 ∷ []))) ((r.id ++ after_id (header_of r)) ++ x) ((q.id ++ after_id (header_of q)) ++ y) refl e in
    (halves r.id q.id (after_id (header_of r) ++ x) (after_id (header_of q) ++ y) (f ∙ sym g)
    (sym (append_assoc r.id (after_id (header_of r)) x) ∙ (a.1 ∙ append_assoc q.id (after_id (header_of q)) y))).0

module _ (rs : List Request) (r : Request) (rest bs : List ℕ) (good : all_good rs ≡ true) (a : Among r rs) (begins : header_bytes (header_of r) ++ rest ≡ bs) where
  -- a request whose header stands here, too, is this one, or the id was used twice
  this_one : (q : Request) (x : List ℕ) → Among q rs → header_bytes (header_of q) ++ x ≡ bs → sealing_key q.key q.id ≡ sealing_key r.key q.id → (q ≡ r) ⊎ IdReused rs
  this_one q x b h k = go (request_discrete q r)
    where
      i : q.id ≡ r.id
      i = same_id q r x rest (good_among q rs good b) (good_among r rs good a) (h ∙ sym begins)

      go : Dec (q ≡ r) → (q ≡ r) ⊎ IdReused rs
      go (yes e) = inl e
      go (no d) = inr (q, (r, (b, a, d, i, k ∙ ap (λ j. sealing_key r.key j) i)))

  behind : (text : List ℕ) (c : List Pair) → Outcome rs r.key bs c text → (message r ≡ bs) ⊎ ForgedOrReused r.key bs rs
  behind text c (inl (q, (b, ek, ec, et, em))) =
      ⊎_elim (λ e. inl (ap (λ x. message x) (sym e) ∙ em)) (λ w. inr (inr w))
      (this_one q ((seal_header (own_key q) (header_of q)).tag ++ frames (suc (length q.text)) (own_key q) q.id q.frame_length 1 q.text) b em (ap (λ x. sealing_key x q.id) ek))
  behind text c (inr (inl f)) = inr (inl f)
  behind text c (inr (inr (inl w))) = inr (inr w)
  behind text c (inr (inr (inr s))) = ⊎_elim (λ e. absurd (s.other (ap (λ x. x.key) e))) (λ w. inr (inr w)) (this_one s.who s.rest s.among s.begins s.same_key)

pub nothing_else_behind : NothingElseBehindAHeader
unfolding NothingElseBehindAHeader
nothing_else_behind rs r rest bs text c good a begins bb e = behind rs r rest bs good a begins text c (what_opens rs r.key bs text c good bb e)
