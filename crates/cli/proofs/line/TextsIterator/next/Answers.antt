use Rattle.std.proofs.Common.{◌≡◌, ◌<◌, [], length, rules, sym, ap, ◌∙◌}
use Rattle.std.proofs.lemmas.Iterator.{YieldsList-from_slice, IsFirst-from_position}
use Rattle.std.specs.List.{AllWithin, HoldsAt}
use Rattle.cli.specs.declared.line.Given.{Given}
use Rattle.cli.proofs.Texts.{no_text, first_text}
use Rattle.cli.proofs.line.TextsIterator.next.Goals as goal

pub returns-in_err-at-clause-steps : goal.returns-in_err-at-clause-steps
returns-in_err-at-clause-steps c =
    let f : AllWithin (λ (x : Given). x.kind ≡ c.self.inside.kind → ⊥) c.self.inside.left.now 0 (length c.self.inside.left.now) =
    IsFirst-from_position _ _ _ (λ (x : Given). x.kind ≡ c.self.inside.kind) (λ (x : Given). x.kind ≡ c.self.inside.kind → ⊥) c.in_err-at.ensures.ran (YieldsList-from_slice c.self.inside.left.now c.iter.ensures.rest)
    (λ x q k. search rules) (λ x q k. search rules) in
    let e : c.args.self.now ≡ [] = sym c.self.view_is ∙ no_text c.self.inside.kind c.self.inside.left.now f in
    rw c.from_residual.ensures (e, e)

pub returns-clause-steps : goal.returns-clause-steps
returns-clause-steps c =
    let f : (c.in_ok-at.at < length c.self.inside.left.now) × HoldsAt (λ (x : Given). x.kind ≡ c.self.inside.kind) c.self.inside.left.now c.in_ok-at.at
    × AllWithin (λ (x : Given). x.kind ≡ c.self.inside.kind → ⊥) c.self.inside.left.now 0 c.in_ok-at.at =
    IsFirst-from_position _ _ _ (λ (x : Given). x.kind ≡ c.self.inside.kind) (λ (x : Given). x.kind ≡ c.self.inside.kind → ⊥) c.in_ok-at.ensures.ran (YieldsList-from_slice c.self.inside.left.now c.iter.ensures.rest)
    (λ x q k. search rules) (λ x q k. search rules) in
    sym c.self.view_is ∙ first_text c.self.inside.kind c.self.inside.left.now c.in_ok-at.at _ f.0 (f.1 _) f.2

pub returns-clause-goes : goal.returns-clause-goes
returns-clause-goes c = let h = ap length (returns-clause-steps c) in search rules
