-- Frames opened one after another: what one step says of what the rest of a message comes to.
use Rattle.std.proofs.Common.{◌≡◌, ℕ, zero, suc, ◌+◌, ◌-◌, ◌<◌, ◌≤◌, true, false, List, [], ◌∷◌, ◌++◌, length, take, drop, sym, refl, ap, ◌∙◌, add-one, arith, length-drop, length-take-le}
use borrow.Rule.Slice.PartMut.{put_mid}
use Rattle.std.proofs.lemmas.Slice.{take-put_mid}
use Rattle.octets.specs.Bits.{pick}
use Rattle.octets.proofs.Bits.{pick_true, pick_false}
use Rattle.octets.proofs.Splice.{length-spliced, spliced_mid}
use Rattle.gcm.specs.Key.{key_of}
use Rattle.format.specs.Header.{Header}
use Rattle.format.specs.Reading.{ReadFrame, is_empty, read_frame}
use Rattle.format.specs.Opening.{Opened, not_opened, opened, open_frames, with_frame, with_text}
use Rattle.frames.specs.Cipher.{unsealed}
use Rattle.frames.specs.Frame.{frame_text, OpensFrame}
use Rattle.opening.specs.Unlocked.{open_rest, Matches}
use Rattle.opening.specs.declared.unlock.Unlocked.{Unlocked}
use Rattle.opening.proofs.FrameSize.{Taken, frame_taken}

-- a frame's text, or what is done next
abbrev pub then_frames : ℕ → Header → List ℕ → ReadFrame → List ℕ → Opened → Opened
then_frames n h sofar f t others = pick f.last (pick (is_empty f.rest) (opened h.context (sofar ++ t)) (not_opened 8 n)) others

open_turn : (k : ℕ) (dk : List ℕ) (h : Header) (n : ℕ) (sofar bs : List ℕ)
    → with_frame n (read_frame h.frame_length n bs) (λ f. with_text n h sofar f (frame_text dk h.id n f) (λ t. open_frames k dk h (suc n) (sofar ++ t) f.rest)) ≡ open_frames (suc k) dk h n sofar bs
unfolding open_frames unsealed
open_turn k dk h n sofar bs = refl

frame_none : (n : ℕ) (xs : List ReadFrame) (g : ReadFrame → Opened) → [] ≡ xs → not_opened 6 n ≡ with_frame n xs g
unfolding with_frame
frame_none n xs g e = ap (λ l. with_frame n l g) e

frame_some : (n : ℕ) (f : ReadFrame) (xs : List ReadFrame) (g : ReadFrame → Opened) → (f ∷ []) ≡ xs → g f ≡ with_frame n xs g
unfolding with_frame
frame_some n f xs g e = ap (λ l. with_frame n l g) e

text_none : (n : ℕ) (h : Header) (sofar : List ℕ) (f : ReadFrame) (xs : List (List ℕ)) (g : List ℕ → Opened) → [] ≡ xs → not_opened 7 n ≡ with_text n h sofar f xs g
unfolding with_text
text_none n h sofar f xs g e = ap (λ l. with_text n h sofar f l g) e

text_some : (n : ℕ) (h : Header) (sofar t : List ℕ) (f : ReadFrame) (xs : List (List ℕ)) (g : List ℕ → Opened) → (t ∷ []) ≡ xs → then_frames n h sofar f t (g t) ≡ with_text n h sofar f xs g
unfolding with_text
text_some n h sofar t f xs g e = ap (λ l. with_text n h sofar f l g) e

-- with enough fuel it doesn't matter how much
frame_ext : (n : ℕ) (xs : List ReadFrame) (g g' : ReadFrame → Opened) → ((f : ReadFrame) (fs : List ReadFrame) → xs ≡ f ∷ fs → g f ≡ g' f) → with_frame n xs g ≡ with_frame n xs g'
unfolding with_frame
frame_ext n [] g g' p = refl
frame_ext n (f ∷ fs) g g' p = p f fs refl

text_ext : (n : ℕ) (h : Header) (sofar : List ℕ) (f : ReadFrame) (ts : List (List ℕ)) (g g' : List ℕ → Opened) → ((t : List ℕ) → g t ≡ g' t) → with_text n h sofar f ts g ≡ with_text n h sofar f ts g'
unfolding with_text
text_ext n h sofar f [] g g' p = refl
text_ext n h sofar f (t ∷ ts) g g' p = ap (λ x. then_frames n h sofar f t x) (p t)

open_fuel : (k m : ℕ) (dk : List ℕ) (h : Header) (n : ℕ) (sofar bs : List ℕ) → length bs < k → length bs < m → open_frames k dk h n sofar bs ≡ open_frames m dk h n sofar bs
open_fuel zero m dk h n sofar bs a b = absurd (omega arith)
open_fuel (suc k) zero dk h n sofar bs a b = absurd (omega arith)
open_fuel (suc k) (suc m) dk h n sofar bs a b =
    sym (open_turn k dk h n sofar bs)
    ∙ frame_ext n (read_frame h.frame_length n bs) _ _ (λ f fs e.
    let l = (frame_taken h.frame_length n bs f fs e).total in
    text_ext n h sofar f (frame_text dk h.id n f) _ _ (λ t. open_fuel k m dk h (suc n) (sofar ++ t) f.rest (omega arith) (omega arith)))
    ∙ open_turn m dk h n sofar bs

module _ (u : Unlocked) (h : Header) (m : Matches u h) (n : ℕ) (sofar bs : List ℕ) where
  size_is : read_frame u.frame_length n bs ≡ read_frame h.frame_length n bs
  size_is = ap (λ s. read_frame s n bs) (sym m.frame_length)

  pub step_none : [] ≡ read_frame u.frame_length n bs → not_opened 6 n ≡ open_rest (key_of u.cipher.key) h n sofar bs
  step_none e = frame_none n _ _ (e ∙ size_is) ∙ open_turn (length bs) (key_of u.cipher.key) h n sofar bs

  pub step_wrong : (f : ReadFrame) → (f ∷ []) ≡ read_frame u.frame_length n bs → [] ≡ frame_text (key_of u.cipher.key) u.cipher.id n f → not_opened 7 n ≡ open_rest (key_of u.cipher.key) h n sofar bs
  step_wrong f e t =
      text_none n h sofar f _ _ (t ∙ ap (λ i. frame_text (key_of u.cipher.key) i n f) (sym m.id)) ∙ frame_some n f _ _ (e ∙ size_is) ∙ open_turn (length bs) (key_of u.cipher.key) h n sofar bs

  pub step_some : (f : ReadFrame) (t : List ℕ) → (f ∷ []) ≡ read_frame u.frame_length n bs → (t ∷ []) ≡ frame_text (key_of u.cipher.key) u.cipher.id n f
      → then_frames n h sofar f t (open_rest (key_of u.cipher.key) h (n + 1) (sofar ++ t) f.rest) ≡ open_rest (key_of u.cipher.key) h n sofar bs
  step_some f t e w =
      let l = (frame_taken u.frame_length n bs f [] (sym e)).total in
      ap (λ x. then_frames n h sofar f t x)
      (ap (λ i. open_rest (key_of u.cipher.key) h i (sofar ++ t) f.rest) (add-one n) ∙ open_fuel (suc (length f.rest)) (length bs) (key_of u.cipher.key) h (suc n) (sofar ++ t) f.rest (omega arith) (omega arith))
      ∙ text_some n h sofar t f _ _ (w ∙ ap (λ i. frame_text (key_of u.cipher.key) i n f) (sym m.id)) ∙ frame_some n f _ _ (e ∙ size_is) ∙ open_turn (length bs) (key_of u.cipher.key) h n sofar bs

  pub step_final : (f : ReadFrame) (t : List ℕ) → (f ∷ []) ≡ read_frame u.frame_length n bs → (t ∷ []) ≡ frame_text (key_of u.cipher.key) u.cipher.id n f → f.last ≡ true
      → pick (is_empty f.rest) (opened h.context (sofar ++ t)) (not_opened 8 n) ≡ open_rest (key_of u.cipher.key) h n sofar bs
  step_final f t e w l = sym (pick_true f.last _ _ l) ∙ step_some f t e w

  pub step_regular : (f : ReadFrame) (t : List ℕ) → (f ∷ []) ≡ read_frame u.frame_length n bs → (t ∷ []) ≡ frame_text (key_of u.cipher.key) u.cipher.id n f → f.last ≡ false
      → open_rest (key_of u.cipher.key) h (n + 1) (sofar ++ t) f.rest ≡ open_rest (key_of u.cipher.key) h n sofar bs
  step_regular f t e w l = sym (pick_false f.last _ _ l) ∙ step_some f t e w

-- what a frame that was opened, or wasn't, says of its text
pub text_found : (dk id : List ℕ) (n : ℕ) (f : ReadFrame) (old out : List ℕ) → OpensFrame dk id n f old true out → length old ≡ length f.sealed.ciphertext → (out ∷ []) ≡ frame_text dk id n f
text_found dk id n f old out w l = sym (pick_true true _ _ refl) ∙ w.text l

pub text_lacks : (dk id : List ℕ) (n : ℕ) (f : ReadFrame) (old out : List ℕ) → OpensFrame dk id n f old false out → length old ≡ length f.sealed.ciphertext → [] ≡ frame_text dk id n f
text_lacks dk id n f old out w l = sym (pick_false false _ _ refl) ∙ w.text l

-- in the middle of a message: what is left to do gives what the frames come to, and there is room for it
pub record Going (u : Unlocked) (bs out rest : List ℕ) (n at : ℕ) : Type 0 where
  pub goes : (h : Header) → Matches u h → open_rest (key_of u.cipher.key) h n (take at out) rest ≡ open_rest (key_of u.cipher.key) h 1 [] bs
  pub room : at + length rest ≤ length out

pub going_first : (u : Unlocked) (bs out : List ℕ) → length bs ≤ length out → Going u bs out bs 1 0
going_first u bs out l = record { goes = λ h m. refl; room = omega arith }

module _ (u : Unlocked) (bs out rest t : List ℕ) (n at : ℕ) (f : ReadFrame) (w : Going u bs out rest n at) (e : (f ∷ []) ≡ read_frame u.frame_length n rest) where
  pub taken : Taken n rest f
  taken = frame_taken u.frame_length n rest f [] (sym e)

  pub fits : at + length f.sealed.ciphertext ≤ length out
  fits = let a = taken.total in let b = w.room in omega arith

  pub part_long : length (take (at + length f.sealed.ciphertext - at) (drop at out)) ≡ length f.sealed.ciphertext
  part_long = let a = fits in let b = length-drop at out in length-take-le (at + length f.sealed.ciphertext - at) (drop at out) (omega arith) ∙ omega arith

  pub going_more : (k end : ℕ) → (t ∷ []) ≡ frame_text (key_of u.cipher.key) u.cipher.id n f → f.last ≡ false → length t ≡ length f.sealed.ciphertext → end ≡ at + length t → k ≡ length t
      → Going u bs (put_mid at k out t) f.rest (n + 1) end
  going_more k end ft l lt ee ek =
      let a = taken.total in
      let b = w.room in
      let long : length (put_mid at k out t) ≡ length out = ap length (spliced_mid at k out t t refl ek) ∙ length-spliced out at t (omega arith) in
      record {
        goes = λ h m.
            ap (λ s. open_rest (key_of u.cipher.key) h (n + 1) s f.rest) (take-put_mid at k out t end ee (omega arith)) ∙ step_regular u h m n (take at out) rest f t e ft l ∙ w.goes h m;
        room = omega arith;
      }

  -- the final frame
  pub going_final : (k end : ℕ) → (t ∷ []) ≡ frame_text (key_of u.cipher.key) u.cipher.id n f → f.last ≡ true → end ≡ at + length t
      → (h : Header) → Matches u h → pick (is_empty f.rest) (opened h.context (take end (put_mid at k out t))) (not_opened 8 n) ≡ open_rest (key_of u.cipher.key) h 1 [] bs
  going_final k end ft l ee h m =
      let b = w.room in
      ap (λ s. pick (is_empty f.rest) (opened h.context s) (not_opened 8 n)) (take-put_mid at k out t end ee (omega arith)) ∙ step_final u h m n (take at out) rest f t e ft l ∙ w.goes h m
