-- The numbers of refusals to open, and the frame that each is at. These are definitions: they assume nothing.
use Rattle.std.specs.Prelude.{ℕ, Some, None, Option}
use Rattle.format.specs.Opening as Opening
use Rattle.format.specs.Opening.{not_opened}
use Rattle.opening.specs.declared.refusal.OpenRefusal.{OpenRefusal}
use Rattle.opening.specs.declared.refusal.OpenRefusal.TheVariants.{OutTooShort, NoHeader, Commitment, HeaderTag, Frame, FrameTag, AfterFinal}

abbrev pub refusal_number : OpenRefusal → ℕ
refusal_number OutTooShort = 1
refusal_number NoHeader = 3
refusal_number Commitment = 4
refusal_number HeaderTag = 5
refusal_number (Frame n) = 6
refusal_number (FrameTag n) = 7
refusal_number (AfterFinal n) = 8

-- the frame that it is at, if it is at one
abbrev pub frame_at : OpenRefusal → Option ℕ
frame_at OutTooShort = None
frame_at NoHeader = None
frame_at Commitment = None
frame_at HeaderTag = None
frame_at (Frame n) = Some n
frame_at (FrameTag n) = Some n
frame_at (AfterFinal n) = Some n

-- 0 where it is at none
abbrev pub refusal_frame : OpenRefusal → ℕ
refusal_frame OutTooShort = 0
refusal_frame NoHeader = 0
refusal_frame Commitment = 0
refusal_frame HeaderTag = 0
refusal_frame (Frame n) = n
refusal_frame (FrameTag n) = n
refusal_frame (AfterFinal n) = n

abbrev pub refused : OpenRefusal → Opening.Opened
refused e = not_opened (refusal_number e) (refusal_frame e)
