-- The next frame, as it is read. These are definitions: they assume nothing.
use Rattle.std.specs.Prelude.{ℕ, Bool, List, [], ◌∷◌, Some, None, Option}
use Rattle.std.specs.Borrow.{Bor}
use Rattle.octets.specs.Bytes.{bytes_eq, to_bytes}
use Rattle.octets.specs.Cut.{cut, and_then, guard}
use Rattle.format.specs.Reading.{ReadFrame}
use Rattle.frames.specs.Kind.{is_final}
use Rattle.frames.specs.declared.frame.Frame.{Frame}

abbrev pub the_frame : Bool → List ℕ → List ℕ → List ℕ → ReadFrame
the_frame last ciphertext tag rest = record { last = last; sealed = record { ciphertext = ciphertext; tag = tag }; rest = rest }

-- what a frame in code stands for
abbrev pub frame_of : Frame → ReadFrame
frame_of f = the_frame (is_final f.kind) f.ciphertext.now f.tag f.rest.now

abbrev pub next_frame : Option Frame → List ReadFrame
next_frame None = []
next_frame (Some f) = frame_of f ∷ []

-- what comes after a nonce, where it is this frame's
abbrev pub after_nonce : ℕ → List ℕ → List (List ℕ)
after_nonce n bs = and_then (cut 12 bs) (λ v. guard (bytes_eq v.front (to_bytes 12 n)) (v.rest ∷ []))

abbrev pub rest : Option (Bor (List ℕ)) → List (List ℕ)
rest None = []
rest (Some r) = r.now ∷ []

-- a ciphertext of so many bytes and its tag
abbrev pub body : Bool → ℕ → List ℕ → List ReadFrame
body last k bs = and_then (cut k bs) (λ c. and_then (cut 16 c.rest) (λ t. the_frame last c.front t.front t.rest ∷ []))
