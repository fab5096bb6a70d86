-- One call of an opener: what each of its answers says of what the message comes to, whatever follows the lent bytes.
use Rattle.std.proofs.Common.{◌≡◌, ℕ, ◌+◌, ◌-◌, ◌<◌, ◌≤◌, Bool, true, false, eqb, ◌⊎◌, List, [], ◌∷◌, ◌++◌, length, take, drop, sym, refl, ap, ◌∙◌, inl, inr, ⊎_elim, arith, length-append, length-take-le, take_at, drop_at}
use native.Mathlib.Nat.{sub-zero}
use Rattle.std.proofs.lemmas.List.{append-nil}
use Rattle.std.proofs.lemmas.Bool.{eqb-false, eqb-true, ne_eqb}
use Rattle.octets.specs.Bytes.{all_bytes}
use Rattle.octets.proofs.Bits.{pick_true, pick_false}
use Rattle.octets.proofs.Cuts.{and_then_none, cut_none}
use Rattle.gcm.specs.Key.{key_of}
use Rattle.format.specs.Reading.{ReadFrame, read_frame}
use Rattle.format.proofs.Frames.{frame_read}
use Rattle.format.proofs.Further.{frame_grows, frame_on}
use Rattle.frames.specs.Frame.{frame_text}
use Rattle.opening.specs.Refusal.{refusal_number}
use Rattle.opening.specs.Opener.{comes_to, Stepped, Refused}
use Rattle.opening.specs.declared.refusal.OpenRefusal.TheVariants.{OutTooShort, Frame, FrameTag, AfterFinal}
use Rattle.opening.specs.declared.state.Opener.{Opener}
use Rattle.opening.specs.declared.state.FrameText.{FrameText}
use Rattle.opening.specs.declared.state.Step.TheVariants.{Regular, Final, End}
use Rattle.opening.proofs.FrameSize.{frame_taken}
use Rattle.opening.proofs.Steps.{step_none, step_wrong, step_final, step_regular}
use Rattle.opening.proofs.Unlocking.{drop_front}
use Rattle.opening.proofs.Enough.{no_frame_then}

none_of : (xs : List ℕ) → length xs ≡ 0 → xs ≡ []
none_of [] e = refl
none_of (x ∷ xs) e = absurd (omega arith)

-- how long the part is that a text is written to
pub part_long : (out : List ℕ) (k : ℕ) → k ≤ length out → length (take (k - 0) out) ≡ k
part_long out k h = length-take-le (k - 0) out (omega arith) ∙ omega arith

-- an end before the final frame
pub no_frame_left : (size n : ℕ) → [] ≡ read_frame size n []
no_frame_left size n = and_then_none _ _ (cut_none 4 [] (omega arith))

module _ (s : Opener) (bs : List ℕ) (at_end : Bool) (old : List ℕ) where
  pub at_the_end : s.done ≡ true → true ≡ eqb (length bs) 0 → Stepped s bs at_end old End s old
  at_the_end d e = record {
    apt = (refl, d, none_of bs (eqb-true (length bs) 0 (sym e)));
    unlocked = refl;
    text_fits = omega arith;
    bytes_fit = omega arith;
    behind = refl;
    comes = λ h sofar more m. ap (λ l. comes_to s h l (bs ++ more)) (append-nil sofar);
  }

  pub after_final : s.done ≡ true → false ≡ eqb (length bs) 0 → Refused s bs at_end old (AfterFinal s.number) s
  after_final d e = record {
    same = refl;
    short = λ z. absurd (let q = ap refusal_number z in omega arith);
    comes = λ _ h sofar more m w.
        sym (pick_true s.done _ _ d ∙ pick_false _ _ _ (ne_eqb (length (bs ++ more)) 0 (λ z. eqb-false (length bs) 0 (sym e) (let l = length-append bs more in omega arith))));
  }

  pub no_frame : s.done ≡ false → [] ≡ read_frame s.unlocked.frame_length s.number bs → (at_end ≡ true) ⊎ (s.unlocked.frame_length + 40 ≤ length bs) → Refused s bs at_end old (Frame s.number) s
  no_frame d e q = record {
    same = refl;
    short = λ z. absurd (let q = ap refusal_number z in omega arith);
    comes = λ _ h sofar more m w.
        step_none s.unlocked h m s.number sofar (bs ++ more) (no_frame_then s.unlocked.frame_length s.number bs more (⊎_elim (λ a. inl (w a)) inr q) e) ∙ sym (pick_false s.done _ _ d);
  }

  module _ (f : ReadFrame) (d : s.done ≡ false) (e : (f ∷ []) ≡ read_frame s.unlocked.frame_length s.number bs) where
    grown : (more : List ℕ) → (frame_on more f ∷ []) ≡ read_frame s.unlocked.frame_length s.number (bs ++ more)
    grown more = sym (frame_grows more s.unlocked.frame_length s.number bs f [] (sym e))

    pub rest_fits : length f.rest ≤ length bs
    rest_fits = let t = (frame_taken s.unlocked.frame_length s.number bs f [] (sym e)).total in omega arith

    pub number_fits : f.last ≡ false → s.number < 4294967295
    number_fits = (frame_taken s.unlocked.frame_length s.number bs f [] (sym e)).below

    pub out_short : length old < length f.sealed.ciphertext → Refused s bs at_end old OutTooShort s
    out_short l = let t = (frame_taken s.unlocked.frame_length s.number bs f [] (sym e)).total in record { same = refl; short = λ z. omega arith; comes = λ z. absurd (z refl) }

    pub wrong_tag : [] ≡ frame_text (key_of s.unlocked.cipher.key) s.unlocked.cipher.id s.number f → Refused s bs at_end old (FrameTag s.number) s
    wrong_tag t = record {
      same = refl;
      short = λ z. absurd (let q = ap refusal_number z in omega arith);
      comes = λ _ h sofar more m w. step_wrong s.unlocked h m s.number sofar (bs ++ more) (frame_on more f) (grown more) t ∙ sym (pick_false s.done _ _ d);
    }

    module _ (b : all_bytes bs ≡ true) (t : List ℕ) (w : (t ∷ []) ≡ frame_text (key_of s.unlocked.cipher.key) s.unlocked.cipher.id s.number f) (lt : length t ≡ length f.sealed.ciphertext) (lo : length f.sealed.ciphertext ≤ length old) where
      abbrev text : FrameText
      text = record { len = length f.sealed.ciphertext; taken = length bs - length f.rest }

      abbrev out : List ℕ
      out = t ++ drop (text.len - 0) old

      text_is : take text.len out ≡ t
      text_is = take_at t (drop (text.len - 0) old) text.len lt

      behind_is : drop text.len out ≡ drop text.len old
      behind_is = drop_at t (drop (text.len - 0) old) text.len lt ∙ ap (λ k. drop k old) (sub-zero text.len)

      rest_is : drop text.taken bs ≡ f.rest
      rest_is = drop_front _ f.rest bs (frame_read s.unlocked.frame_length s.number bs f [] b (sym e)).written

      pub final : f.last ≡ true → Stepped s bs at_end old (Final text) (record { unlocked = s.unlocked; header_len = s.header_len; number = s.number; done = true }) out
      final l = record {
        apt = (d, refl);
        unlocked = refl;
        text_fits = lo;
        bytes_fit = omega arith;
        behind = behind_is;
        comes = λ h sofar more m.
            ap (λ x. comes_to (record { unlocked = s.unlocked; header_len = s.header_len; number = s.number; done = true }) h (sofar ++ x) (drop text.taken bs ++ more)) text_is
            ∙ ap (λ x. comes_to (record { unlocked = s.unlocked; header_len = s.header_len; number = s.number; done = true }) h (sofar ++ t) (x ++ more)) rest_is
            ∙ pick_true _ _ _ refl ∙ step_final s.unlocked h m s.number sofar (bs ++ more) (frame_on more f) t (grown more) w l ∙ sym (pick_false s.done _ _ d);
      }

      pub regular : f.last ≡ false → Stepped s bs at_end old (Regular text) (record { unlocked = s.unlocked; header_len = s.header_len; number = s.number + 1; done = s.done }) out
      regular l = record {
        apt = (d, d);
        unlocked = refl;
        text_fits = lo;
        bytes_fit = omega arith;
        behind = behind_is;
        comes = λ h sofar more m.
            ap (λ x. comes_to (record { unlocked = s.unlocked; header_len = s.header_len; number = s.number + 1; done = s.done }) h (sofar ++ x) (drop text.taken bs ++ more)) text_is
            ∙ ap (λ x. comes_to (record { unlocked = s.unlocked; header_len = s.header_len; number = s.number + 1; done = s.done }) h (sofar ++ t) (x ++ more)) rest_is
            ∙ pick_false s.done _ _ d ∙ step_regular s.unlocked h m s.number sofar (bs ++ more) (frame_on more f) t (grown more) w l ∙ sym (pick_false s.done _ _ d);
      }
