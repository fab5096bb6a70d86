-- Opening step by step: what opening that went well says of each step, and what one step gives.
use Rattle.std.proofs.Common.{◌≡◌, ℕ, suc, Bool, true, false, ltb, List, [], ◌∷◌, ◌++◌, length, refl, ap, ◌∙◌, arith}
use Rattle.octets.specs.Bits.{pick}
use Rattle.octets.specs.Bytes.{bytes_eq, drop, take}
use Rattle.octets.proofs.Bits.{pick_false, pick_true}
use Rattle.hkdf.specs.MessageKeys.{commitment, sealing_key}
use Rattle.format.specs.Header.{Header}
use Rattle.format.specs.Message.{frames}
use Rattle.format.specs.Opening.{Opened, header_tag_right, not_opened, open_frames, opened, unseal_frame, with_frame, with_header, with_text}
use Rattle.format.specs.Piece.{final_bytes, frame_bytes, seal_frame}
use Rattle.format.specs.Reading.{ReadFrame, ReadHeader, is_empty, read_frame}
use Rattle.format.specs.Request.{Pair}

-- a refusal is not a message opened
pub refused_is_opened : (B : Type 0) (i j : ℕ) (c : List Pair) (t : List ℕ) → not_opened i j ≡ opened c t → B
refused_is_opened B i j c t e = absurd (let z : ◌≡◌ {A = ℕ} 0 1 = cc in omega arith)

-- what opening that went well says
pub record Next (xs : List ReadFrame) (g : ReadFrame → Opened) (o : Opened) : Type 0 where
  pub frame : ReadFrame
  pub more : List ReadFrame
  pub here : xs ≡ frame ∷ more
  pub then : g frame ≡ o

pub with_frame_some : (n : ℕ) (xs : List ReadFrame) (g : ReadFrame → Opened) (c : List Pair) (t : List ℕ) → with_frame n xs g ≡ opened c t → Next xs g (opened c t)
unfolding with_frame
with_frame_some n [] g c t e = refused_is_opened _ 6 n c t e
with_frame_some n (f ∷ fs) g c t e = record { frame = f; more = fs; here = refl; then = e }

-- a frame's text, and what comes then
abbrev pub after : ℕ → Header → List ℕ → ReadFrame → (List ℕ → Opened) → List ℕ → Opened
after n h sofar f g u = pick f.last (pick (is_empty f.rest) (opened h.context (sofar ++ u)) (not_opened 8 n)) (g u)

pub record Text (ts : List (List ℕ)) (g : List ℕ → Opened) (o : Opened) : Type 0 where
  pub text : List ℕ
  pub more : List (List ℕ)
  pub here : ts ≡ text ∷ more
  pub then : g text ≡ o

pub with_text_some : (n : ℕ) (h : Header) (sofar : List ℕ) (f : ReadFrame) (ts : List (List ℕ)) (g : List ℕ → Opened) (c : List Pair) (t : List ℕ)
    → with_text n h sofar f ts g ≡ opened c t → Text ts (after n h sofar f g) (opened c t)
unfolding with_text
with_text_some n h sofar f [] g c t e = refused_is_opened _ 7 n c t e
with_text_some n h sofar f (u ∷ us) g c t e = record { text = u; more = us; here = refl; then = e }

pub last_some : (b : Bool) (n : ℕ) (c d : List Pair) (t u : List ℕ) → pick b (opened c t) (not_opened 8 n) ≡ opened d u → (b ≡ true) × (d ≡ c) × (u ≡ t)
unfolding pick
last_some true n c d t u e = (refl, cc, cc)
last_some false n c d t u e = refused_is_opened _ 8 n d u e

-- frames and their pieces, one step
pub frames_more : (m : ℕ) (dk id : List ℕ) (size n : ℕ) (t : List ℕ) → ltb size (length t) ≡ true
    → frames (suc m) dk id size n t ≡ frame_bytes n (seal_frame dk id false n (take size t)) ++ frames m dk id size (suc n) (drop size t)
unfolding frames
frames_more m dk id size n t h = pick_true (ltb size (length t)) _ _ h

pub frames_last : (m : ℕ) (dk id : List ℕ) (size n : ℕ) (t : List ℕ) → ltb size (length t) ≡ false
    → frames (suc m) dk id size n t ≡ final_bytes n (seal_frame dk id true n t)
unfolding frames
frames_last m dk id size n t h = pick_false (ltb size (length t)) _ _ h

-- opening that went well
pub record HeaderOpened (xs : List ReadHeader) (f : ReadHeader → Opened) (o : Opened) : Type 0 where
  pub found : ReadHeader
  pub more : List ReadHeader
  pub here : xs ≡ found ∷ more
  pub then : f found ≡ o

pub with_header_some : (xs : List ReadHeader) (f : ReadHeader → Opened) (c : List Pair) (t : List ℕ) → with_header xs f ≡ opened c t → HeaderOpened xs f (opened c t)
unfolding with_header
with_header_some [] f c t e = refused_is_opened _ 3 0 c t e
with_header_some (x ∷ xs) f c t e = record { found = x; more = xs; here = refl; then = e }

pub picked_opened : (b : Bool) (o : Opened) (i j : ℕ) (c : List Pair) (t : List ℕ) → pick b o (not_opened i j) ≡ opened c t → (b ≡ true) × (o ≡ opened c t)
unfolding pick
picked_opened true o i j c t e = (refl, e)
picked_opened false o i j c t e = refused_is_opened _ i j c t e

-- what is done once a header is read
abbrev pub open_read : List ℕ → ReadHeader → Opened
open_read k x =
    let dk : List ℕ = sealing_key k x.header.id in
    pick (bytes_eq (commitment k x.header.id) x.header.commitment)
    (pick (header_tag_right dk x) (open_frames (suc (length x.rest)) dk x.header 1 [] x.rest) (not_opened 5 0))
    (not_opened 4 0)

-- one step of opening
pub open_step : (k : ℕ) (dk : List ℕ) (h : Header) (n : ℕ) (sofar bs : List ℕ) (f : ReadFrame) (u : List ℕ) (us : List (List ℕ)) → read_frame h.frame_length n bs ≡ f ∷ [] → unseal_frame dk h n f ≡ u ∷ us
    → open_frames (suc k) dk h n sofar bs ≡ pick f.last (pick (is_empty f.rest) (opened h.context (sofar ++ u)) (not_opened 8 n)) (open_frames k dk h (suc n) (sofar ++ u) f.rest)
unfolding open_frames with_frame with_text
open_step k dk h n sofar bs f u us ef eu =
    ap (λ xs. with_frame n xs (λ g. with_text n h sofar g (unseal_frame dk h n g) (λ t. open_frames k dk h (suc n) (sofar ++ t) g.rest))) ef
    ∙ ap (λ ts. with_text n h sofar f ts (λ t. open_frames k dk h (suc n) (sofar ++ t) f.rest)) eu
