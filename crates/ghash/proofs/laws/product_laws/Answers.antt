use Rattle.ghash.specs.Laws.{LinearLeft, LinearRight, Commutative, Associative}
use Rattle.ghash.proofs.Algebra.{product-xor_left, product-xor_right, product_comm, product_assoc}
use Rattle.ghash.proofs.laws.product_laws.Goals as goal

pub returns : goal.returns
unfolding LinearLeft LinearRight Commutative Associative
returns c = record { left = product-xor_left; right = product-xor_right; commutative = product_comm; associative = product_assoc }
