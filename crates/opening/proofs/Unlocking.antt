-- A header that was read: where its parts end, and what the checks of its commitment and its tag say of the message.
use Rattle.std.proofs.Common.{◌≡◌, ℕ, suc, ◌+◌, ◌-◌, ◌<◌, Bool, true, false, List, [], ◌∷◌, ◌++◌, length, get_or, sym, refl, ap, ◌∙◌, append_assoc, arith, length-append, take_at, drop_at, Some, None, Option, subst, eqb}
use lib.ListN as L
use Rattle.std.proofs.lemmas.Bool.{and_from, lt-ltb, eq-eqb, cond-true}
use Rattle.std.specs.Option.{IsSome}
use Rattle.header.specs.Checked.{array_32}
use Rattle.header.proofs.Lengths.{some_cond}
use Rattle.octets.specs.Bytes.{all_bytes, bytes_eq}
use Rattle.octets.proofs.Bits.{pick_true, pick_false}
use Rattle.hkdf.specs.MessageKeys.{sealing_key, commitment}
use Rattle.format.specs.Header.{Header, header_bytes}
use Rattle.format.specs.Reading.{ReadHeader, read_header}
use Rattle.format.specs.Opening.{not_opened, with_header}
use Rattle.format.proofs.Headers.{header_read}
use Rattle.frames.specs.Cipher.{header_tag}
use Rattle.opening.specs.Unlocked.{open_rest, open_read}
use Rattle.opening.specs.Answer.{opening}

-- lent bytes are bytes
pub all_bytes_of : (xs : List ℕ) → ((i : ℕ) → get_or xs i 0 < 256) → all_bytes xs ≡ true
unfolding all_bytes
all_bytes_of [] h = refl
all_bytes_of (x ∷ xs) h = and_from _ _ (lt-ltb x 256 (h 0)) (all_bytes_of xs (λ i. h (suc i)))

-- what comes after the front of bytes
pub drop_front : (a rest bs : List ℕ) → a ++ rest ≡ bs → L.drop (length bs - length rest) bs ≡ rest
drop_front a rest bs e =
    let s = length-append a rest in
    let l = ap length e in
    ap (λ l. L.drop (length bs - length rest) l) (sym e) ∙ drop_at a rest (length bs - length rest) (omega arith)

-- where the parts of a header that was read end
pub record Split (bs : List ℕ) (x : ReadHeader) : Type 0 where
  pub sum : length (header_bytes x.header) + (length x.tag + length x.rest) ≡ length bs
  pub front : (end : ℕ) → end ≡ length bs - length x.rest - length x.tag → L.take end bs ≡ header_bytes x.header
  pub rest : L.drop (length bs - length x.rest) bs ≡ x.rest
  pub id : length x.header.id ≡ 32

pub split : (bs : List ℕ) (x : ReadHeader) → ((i : ℕ) → get_or bs i 0 < 256) → (x ∷ []) ≡ read_header bs → Split bs x
split bs x h e =
    let r = header_read bs x [] (all_bytes_of bs h) (sym e) in
    let b : List ℕ = header_bytes x.header in
    let w : b ++ (x.tag ++ x.rest) ≡ bs = r.written in
    let s = length-append b (x.tag ++ x.rest) in
    let t = length-append x.tag x.rest in
    let l = ap length w in
    record {
      sum = omega arith;
      front = λ end f. sym (ap (λ ys. L.take end ys) w) ∙ take_at b (x.tag ++ x.rest) end (omega arith);
      rest = drop_front (b ++ x.tag) x.rest bs (append_assoc b x.tag x.rest ∙ w);
      id = r.fits.id_long;
    }

module _ (k : List ℕ) (h : Header) (tag id own dk rest : List ℕ) (i : id ≡ h.id) (c : own ≡ commitment k id) where
  committed : (b : Bool) → b ≡ bytes_eq own h.commitment → bytes_eq (commitment k h.id) h.commitment ≡ b
  committed b e = sym (e ∙ ap (λ l. bytes_eq l h.commitment) (c ∙ ap (λ j. commitment k j) i))

  tagged : (b : Bool) → dk ≡ sealing_key k id → b ≡ bytes_eq (header_tag dk (header_bytes h)) tag → bytes_eq (header_tag (sealing_key k h.id) (header_bytes h)) tag ≡ b
  tagged b d e = sym (e ∙ ap (λ l. bytes_eq (header_tag l (header_bytes h)) tag) (d ∙ ap (λ j. sealing_key k j) i))

  pub other_commitment : false ≡ bytes_eq own h.commitment → not_opened 4 0 ≡ open_read k h tag rest
  other_commitment e = sym (pick_false _ _ _ (committed false e))

  pub wrong_tag : true ≡ bytes_eq own h.commitment → dk ≡ sealing_key k id → false ≡ bytes_eq (header_tag dk (header_bytes h)) tag → not_opened 5 0 ≡ open_read k h tag rest
  wrong_tag e d f = sym (pick_true _ _ _ (committed true e) ∙ pick_false _ _ _ (tagged false d f))

  pub unlocked : true ≡ bytes_eq own h.commitment → dk ≡ sealing_key k id → true ≡ bytes_eq (header_tag dk (header_bytes h)) tag → open_rest dk h 1 [] rest ≡ open_read k h tag rest
  unlocked e d f =
      ap (λ l. open_rest l h 1 [] rest) (d ∙ ap (λ j. sealing_key k j) i) ∙ sym (pick_true _ _ _ (committed true e) ∙ pick_true _ _ _ (tagged true d f))

-- a message by its header
opening_is : (k bs : List ℕ) → with_header (read_header bs) (λ x. open_read k x.header x.tag x.rest) ≡ opening k bs
unfolding opening header_tag
opening_is k bs = refl

pub opening_none : (k bs : List ℕ) → [] ≡ read_header bs → not_opened 3 0 ≡ opening k bs
unfolding with_header
opening_none k bs e = ap (λ xs. with_header xs (λ x. open_read k x.header x.tag x.rest)) e ∙ opening_is k bs

pub opening_some : (k bs : List ℕ) (x : ReadHeader) → (x ∷ []) ≡ read_header bs → open_read k x.header x.tag x.rest ≡ opening k bs
unfolding with_header
opening_some k bs x e = ap (λ xs. with_header xs (λ x. open_read k x.header x.tag x.rest)) e ∙ opening_is k bs

-- 32 bytes are there by value, and are what they were
pub id_there : (bs : List ℕ) (r : Option (List ℕ)) → r ≡ array_32 bs → length bs ≡ 32 → IsSome r
id_there bs r e h = subst IsSome (sym (e ∙ cond-true (eqb (length bs) 32) (Some bs) None (eq-eqb _ _ h))) refl

pub id_is : (bs id : List ℕ) (r : Option (List ℕ)) → r ≡ array_32 bs → r ≡ Some id → id ≡ bs
id_is bs id r e f = (some_cond _ _ _ (sym f ∙ e)).1
