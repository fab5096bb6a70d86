-- The two keys of a message: both come by HKDF from the data key, with the message id as salt.
-- These are definitions: they assume nothing.
use Rattle.std.specs.Prelude.{ℕ, List, [], ◌∷◌}
use Rattle.hkdf.specs.Hkdf.{hkdf}

-- the suite's number 4 120 and the letters DERIVEKEY
unfoldable pub derive_label : List ℕ
derive_label = 4 ∷ (120 ∷ (68 ∷ (69 ∷ (82 ∷ (73 ∷ (86 ∷ (69 ∷ (75 ∷ (69 ∷ (89 ∷ []))))))))))

-- the letters COMMITKEY
unfoldable pub commit_label : List ℕ
commit_label = 67 ∷ (79 ∷ (77 ∷ (77 ∷ (73 ∷ (84 ∷ (75 ∷ (69 ∷ (89 ∷ []))))))))

-- what header and frames are sealed with
abbrev pub sealing_key : List ℕ → List ℕ → List ℕ
sealing_key k id = hkdf id k derive_label 32

-- what the header says of the key
abbrev pub commitment : List ℕ → List ℕ → List ℕ
commitment k id = hkdf id k commit_label 32
