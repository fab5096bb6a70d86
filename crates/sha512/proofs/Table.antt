-- The code's table of constants is the definition's.
use Rattle.std.proofs.Common.{◌≡◌, refl, ap, length}
use Rattle.sha512.specs.Constants.{constants, k0, k1, k2, k3, k4, k5, k6, k7, k8, k9, k10, k11, k12, k13, k14, k15, k16, k17, k18, k19}
use Rattle.sha512.specs.declared.constants.TheConstants.{ROUND_CONSTANTS}

pub constants_are : constants ≡ ROUND_CONSTANTS
unfolding constants k0 k1 k2 k3 k4 k5 k6 k7 k8 k9 k10 k11 k12 k13 k14 k15 k16 k17 k18 k19
constants_are = refl

pub length_constants : length constants ≡ 80
length_constants = ap length constants_are
