-- The texts of a kind: the first that is given, and what comes after it.
use Rattle.std.proofs.Common.{◌≡◌, ℕ, zero, suc, ◌+◌, ◌<◌, eqb, false, List, [], ◌∷◌, map, length, get_or, drop, sym, refl, ap, ◌∙◌, arith, add-one, ◌-◌, take, take_all, length-drop}
use Rattle.std.proofs.lemmas.Bool.{ne_eqb, eq-eqb, cond-true, cond-false}
use Rattle.std.specs.List.{AllWithin}
use Rattle.cli.specs.declared.options.Kind.{Kind}
use Rattle.cli.specs.declared.options.Kind.TheVariants as kinds
use Rattle.cli.specs.declared.line.Given.{Given}
use Rattle.cli.specs.Line.{item, rank, texts}

-- a kind by its place
unrank : ℕ → Kind
unrank zero = kinds.Key
unrank (suc zero) = kinds.DataKey
unrank (suc (suc zero)) = kinds.Context
unrank (suc (suc (suc zero))) = kinds.FrameLength
unrank (suc (suc (suc (suc zero)))) = kinds.Id
unrank (suc (suc (suc (suc (suc zero))))) = kinds.Header
unrank (suc (suc (suc (suc (suc (suc zero)))))) = kinds.Force
unrank (suc (suc (suc (suc (suc (suc (suc zero))))))) = kinds.Help
unrank (suc (suc (suc (suc (suc (suc (suc (suc zero)))))))) = kinds.Version
unrank (suc (suc (suc (suc (suc (suc (suc (suc (suc n))))))))) = kinds.Operand

unrank_rank : (k : Kind) → unrank (rank k) ≡ k
unfolding unrank
unrank_rank kinds.Key = refl
unrank_rank kinds.DataKey = refl
unrank_rank kinds.Context = refl
unrank_rank kinds.FrameLength = refl
unrank_rank kinds.Id = refl
unrank_rank kinds.Header = refl
unrank_rank kinds.Force = refl
unrank_rank kinds.Help = refl
unrank_rank kinds.Version = refl
unrank_rank kinds.Operand = refl

other_rank : (a b : Kind) → (a ≡ b → ⊥) → eqb (rank a) (rank b) ≡ false
other_rank a b n = ne_eqb (rank a) (rank b) (λ e. n (sym (unrank_rank a) ∙ ap unrank e ∙ unrank_rank b))

pub no_text : (k : Kind) (gs : List Given) → AllWithin (λ g. g.kind ≡ k → ⊥) gs 0 (length gs) → texts k (map item gs) ≡ []
unfolding texts
no_text k [] h = refl
no_text k (g ∷ gs) h = cond-false _ _ _ (other_rank g.kind k (h 0 g (omega arith) (omega arith))) ∙ no_text k gs (λ i d a b. h (suc i) d (omega arith) (omega arith))

first_at : (k : Kind) (gs : List Given) (i : ℕ) (d : Given) → i < length gs → (get_or gs i d).kind ≡ k → AllWithin (λ g. g.kind ≡ k → ⊥) gs 0 i
    → texts k (map item gs) ≡ (get_or gs i d).text.now ∷ texts k (map item (drop (suc i) gs))
unfolding texts
first_at k [] i d h e n = absurd (omega arith)
first_at k (g ∷ gs) zero d h e n = cond-true _ _ _ (eq-eqb (rank g.kind) (rank k) (ap rank e))
first_at k (g ∷ gs) (suc i) d h e n = cond-false _ _ _ (other_rank g.kind k (n 0 g (omega arith) (omega arith))) ∙ first_at k gs i d (omega arith) e (λ j c a b. n (suc j) c (omega arith) (omega arith))

pub first_text : (k : Kind) (gs : List Given) (i : ℕ) (d : Given) → i < length gs → (get_or gs i d).kind ≡ k → AllWithin (λ g. g.kind ≡ k → ⊥) gs 0 i
    → texts k (map item gs) ≡ (get_or gs i d).text.now ∷ texts k (map item (take (length gs - (i + 1)) (drop (i + 1) gs)))
first_text k gs i d h e n =
    first_at k gs i d h e n ∙ ap (λ rest. (get_or gs i d).text.now ∷ texts k (map item rest)) (sym (rw (add-one i) (take_all (length gs - suc i) (drop (suc i) gs) (omega (arith, length-drop (suc i) gs)))))
