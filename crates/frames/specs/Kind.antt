-- The two kinds of frames, by the format's words. These are definitions: they assume nothing.
use Rattle.std.specs.Prelude.{ℕ, Bool, true, false}
use Rattle.frames.specs.declared.frame.FrameKind.{FrameKind}
use Rattle.frames.specs.declared.frame.FrameKind.TheVariants.{Regular, Final}

abbrev pub is_final : FrameKind → Bool
is_final Regular = false
is_final Final = true

-- how many bytes stand before the ciphertext
abbrev pub front_length : FrameKind → ℕ
front_length Regular = 16
front_length Final = 24

-- how much longer a frame is than its text
abbrev pub overhead : FrameKind → ℕ
overhead Regular = 32
overhead Final = 40

-- how long the additional data is
abbrev pub aad_length : FrameKind → ℕ
aad_length Regular = 72
aad_length Final = 78
