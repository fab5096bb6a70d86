-- Frames one after another, in parts from the library's take and drop.
use Rattle.std.proofs.Common.{◌≡◌, ℕ, zero, suc, ◌+◌, ◌<◌, ◌≤◌, List, ◌++◌, length, sym, ap, ◌∙◌, ap₂, ⊎_elim, add-one, arith, length-append, length-drop, take_at, drop_at}
use lib.ListN as L
use Rattle.std.proofs.lemmas.Bool.{lt-ltb, le-ltb, cases_lt}
use Rattle.octets.specs.Bytes.{take, drop}
use Rattle.octets.proofs.Lists.{take_is, drop_is}
use Rattle.format.specs.Message.{frames}
use Rattle.format.proofs.Opening as O
use Rattle.frames.specs.Frame.{regular_frame, final_frame}

shut_more : (k : ℕ) (key id t : List ℕ) (size n : ℕ) → size < length t → regular_frame key id n (take size t) ++ frames k key id size (suc n) (drop size t) ≡ frames (suc k) key id size n t
unfolding regular_frame
shut_more k key id t size n h = sym (O.frames_more k key id size n t (lt-ltb size (length t) h))

pub frames_more : (k : ℕ) (key id t : List ℕ) (size n : ℕ) → size < length t → regular_frame key id n (L.take size t) ++ frames k key id size (n + 1) (L.drop size t) ≡ frames (suc k) key id size n t
frames_more k key id t size n h =
    ap₂ (λ a b. regular_frame key id n a ++ frames k key id size (n + 1) b) (sym (take_is size t)) (sym (drop_is size t))
    ∙ ap (λ m. regular_frame key id n (take size t) ++ frames k key id size m (drop size t)) (add-one n)
    ∙ shut_more k key id t size n h

pub frames_last : (k : ℕ) (key id t : List ℕ) (size n : ℕ) → length t ≤ size → final_frame key id n t ≡ frames (suc k) key id size n t
unfolding final_frame
frames_last k key id t size n h = sym (O.frames_last k key id size n t (le-ltb size (length t) h))

-- with enough fuel it doesn't matter how much
pub frames_fuel : (k m : ℕ) (key id t : List ℕ) (size n : ℕ) → 0 < size → length t < k → length t < m → frames k key id size n t ≡ frames m key id size n t
frames_fuel zero m key id t size n p a b = absurd (omega arith)
frames_fuel (suc k) zero key id t size n p a b = absurd (omega arith)
frames_fuel (suc k) (suc m) key id t size n p a b =
    ⊎_elim
    (λ l.
    sym (frames_more k key id t size n l)
    ∙ ap (λ r. regular_frame key id n (L.take size t) ++ r) (frames_fuel k m key id (L.drop size t) size (n + 1) p (omega (arith, length-drop size t)) (omega (arith, length-drop size t)))
    ∙ frames_more m key id t size n l)
    (λ l. sym (frames_last k key id t size n l) ∙ frames_last m key id t size n l) (cases_lt size (length t))

-- a regular frame, and then the frames of some text that comes after it
pub frames_join : (key id text t : List ℕ) (size n : ℕ) → 0 < size → length text ≡ size → 0 < length t
    → regular_frame key id n text ++ frames (suc (length t)) key id size (n + 1) t ≡ frames (suc (length (text ++ t))) key id size n (text ++ t)
frames_join key id text t size n p e h =
    let sum = length-append text t in
    ap (λ l. regular_frame key id n text ++ l) (frames_fuel (suc (length t)) (length (text ++ t)) key id t size (n + 1) p (omega arith) (omega arith))
    ∙ ap₂ (λ a b. regular_frame key id n a ++ frames (length (text ++ t)) key id size (n + 1) b) (sym (take_at text t size e)) (sym (drop_at text t size e))
    ∙ frames_more (length (text ++ t)) key id (text ++ t) size n (omega arith)
