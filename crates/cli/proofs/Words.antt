-- The words of a command line are taken from the left: what one word is for, and what one more does to the whole.
use Rattle.std.proofs.Common.{◌≡◌, ℕ, ◌+◌, ◌<◌, ◌≤◌, false, eqb, List, [], ◌∷◌, ◌++◌, map, length, get_or, drop, Some, None, Ok, Err, string_bytes, codes, Option, Result, String, sym, refl, ap, ◌∙◌, ⊎_elim, append_assoc, append-nil}
use Rattle.std.proofs.lemmas.Slice.Eq.{bytes_eq-Decides}
use Rattle.std.proofs.lemmas.List.{drop_more, drop_all, map_push}
use Rattle.std.proofs.lemmas.Bool.{cases_Bool, ne_eqb, eq-eqb, cond-true, cond-false}
use Rattle.std.specs.Str.{bytes_eq}
use Rattle.cli.specs.declared.options.Program.{Program}
use Rattle.cli.specs.declared.options.Kind.{Kind}
use Rattle.cli.specs.declared.options.Kind.TheVariants.{Operand}
use Rattle.cli.specs.declared.scan.Expects.{Expects}
use Rattle.cli.specs.declared.scan.Expects.TheVariants as expects
use Rattle.cli.specs.declared.scan.Expects.TheVariants.{Word, ValueOf}
use Rattle.cli.specs.declared.scan.Step.{Step}
use Rattle.cli.specs.declared.line.Given.{Given}
use Rattle.cli.specs.Line.{Item, item}
use Rattle.cli.specs.Options.{option_of}
use Rattle.cli.specs.Scan.{Fault, unknown, no_value, item_before, at_end, go_on, step_of, word_step, option_step, scan_from, words_of}

pub not_same : (xs ys : List ℕ) → (xs ≡ ys → ⊥) → bytes_eq xs ys ≡ false
not_same xs ys h = ⊎_elim (λ t. absurd (h ((bytes_eq-Decides xs ys).0 t))) (λ f. f) (cases_Bool (bytes_eq xs ys))

pub no_option : (w : List ℕ) → (w ≡ codes "--key" → ⊥) → (w ≡ codes "--data-key" → ⊥) → (w ≡ codes "--context" → ⊥) → (w ≡ codes "--frame-length" → ⊥) → (w ≡ codes "--id" → ⊥) → (w ≡ codes "--header" → ⊥) → (w ≡ codes "--force" → ⊥) → (w ≡ codes "--help" → ⊥) → (w ≡ codes "--version" → ⊥) → None ≡ option_of w
no_option w a b c d e f g h i =
    sym
    (cond-false (bytes_eq w (codes "--key")) _ _ (not_same w (codes "--key") a)
    ∙ cond-false (bytes_eq w (codes "--data-key")) _ _ (not_same w (codes "--data-key") b)
    ∙ cond-false (bytes_eq w (codes "--context")) _ _ (not_same w (codes "--context") c)
    ∙ cond-false (bytes_eq w (codes "--frame-length")) _ _ (not_same w (codes "--frame-length") d)
    ∙ cond-false (bytes_eq w (codes "--id")) _ _ (not_same w (codes "--id") e)
    ∙ cond-false (bytes_eq w (codes "--header")) _ _ (not_same w (codes "--header") f)
    ∙ cond-false (bytes_eq w (codes "--force")) _ _ (not_same w (codes "--force") g)
    ∙ cond-false (bytes_eq w (codes "--help")) _ _ (not_same w (codes "--help") h)
    ∙ cond-false (bytes_eq w (codes "--version")) _ _ (not_same w (codes "--version") i))

-- a word that isn't "--" and begins with '-'
pub option_word : (program : Program) (w : List ℕ) → (w ≡ codes "--" → ⊥) → get_or w 0 0 ≡ 45 → option_step program (option_of w) ≡ word_step program w
option_word program w h e =
    sym (cond-false (bytes_eq w (codes "--")) _ _ (not_same w (codes "--") h) ∙ cond-true (eqb (get_or w 0 0) 45) _ _ (eq-eqb (get_or w 0 0) 45 e))

pub file_word : (program : Program) (w : List ℕ) → (w ≡ codes "--" → ⊥) → (get_or w 0 0 ≡ 45 → ⊥) → Some (record { given = Some Operand; then = Word }) ≡ word_step program w
file_word program w h e =
    sym (cond-false (bytes_eq w (codes "--")) _ _ (not_same w (codes "--") h) ∙ cond-false (eqb (get_or w 0 0) 45) _ _ (ne_eqb (get_or w 0 0) 45 e))

pub taken_option : (program : Program) (w : List ℕ) (k : Kind) (s : Option Step) → Some k ≡ option_of w → s ≡ option_step program (Some k) → s ≡ option_step program (option_of w)
taken_option program w k s n e = e ∙ ap (option_step program) n

-- the items so far, and what is left
abbrev pub items_before : List Item → Result (List Item) Fault → Result (List Item) Fault
items_before done (Ok xs) = Ok (done ++ xs)
items_before done (Err e) = Err e

pub none_before : (r : Result (List Item) Fault) → items_before [] r ≡ r
none_before (Ok xs) = refl
none_before (Err e) = refl

step_on : {Z : Type 0} (program : Program) (e : Expects) (ws : List (String Z)) (i : ℕ) (w : String Z) → i < length ws → w ≡ get_or ws i w
    → scan_from program e (words_of (drop i ws)) ≡ go_on (string_bytes w) (step_of program e (string_bytes w)) (λ f. scan_from program f (words_of (drop (i + 1) ws)))
unfolding scan_from
step_on program e ws i w h p =
    ap (λ vs. scan_from program e (words_of vs)) (drop_more ws i w h)
    ∙ ap (λ v. go_on (string_bytes v) (step_of program e (string_bytes v)) (λ f. scan_from program f (words_of (drop (i + 1) ws)))) (sym p)

pub word_unknown : {Z : Type 0} (program : Program) (e : Expects) (ws : List (String Z)) (i : ℕ) (w : String Z) (t : List ℕ) (done : List Item) → i < length ws → w ≡ get_or ws i w → t ≡ string_bytes w
    → None ≡ step_of program e t → items_before done (scan_from program e (words_of (drop i ws))) ≡ Err (unknown t)
word_unknown program e ws i w t done h p q n =
    ap (items_before done)
    (step_on program e ws i w h p
    ∙ ap (λ v. go_on v (step_of program e v) (λ f. scan_from program f (words_of (drop (i + 1) ws)))) (sym q)
    ∙ ap (λ s. go_on t s (λ f. scan_from program f (words_of (drop (i + 1) ws)))) (sym n))

word_more : {Z : Type 0} (program : Program) (e : Expects) (ws : List (String Z)) (i : ℕ) (w : String Z) (t : List ℕ) (s : Step) → i < length ws → w ≡ get_or ws i w → t ≡ string_bytes w
    → Some s ≡ step_of program e t → scan_from program e (words_of (drop i ws)) ≡ item_before s.given t (scan_from program s.then (words_of (drop (i + 1) ws)))
word_more program e ws i w t s h p q n =
    step_on program e ws i w h p
    ∙ ap (λ v. go_on v (step_of program e v) (λ f. scan_from program f (words_of (drop (i + 1) ws)))) (sym q)
    ∙ ap (λ o. go_on t o (λ f. scan_from program f (words_of (drop (i + 1) ws)))) (sym n)

item_on : (done : List Item) (k : Kind) (t : List ℕ) (r : Result (List Item) Fault) → items_before done (item_before (Some k) t r) ≡ items_before (done ++ (record { kind = k; text = t } ∷ [])) r
item_on done k t (Ok xs) = ap Ok (sym (append_assoc done (record { kind = k; text = t } ∷ []) xs))
item_on done k t (Err e) = refl

-- a turn that takes the word, and one that takes nothing
pub word_taken : {Z : Type 0} (program : Program) (e f : Expects) (ws : List (String Z)) (i : ℕ) (w : String Z) (g : Given) (s : Step) (done more : List Given) → i < length ws → w ≡ get_or ws i w → g.text.now ≡ string_bytes w
    → Some s ≡ step_of program e g.text.now → s.given ≡ Some g.kind → more ≡ done ++ (g ∷ []) → f ≡ s.then
    → items_before (map item more) (scan_from program f (words_of (drop (i + 1) ws))) ≡ items_before (map item done) (scan_from program e (words_of (drop i ws)))
word_taken program e f ws i w g s done more h p q n k m t =
    let rest : Result (List Item) Fault = scan_from program s.then (words_of (drop (i + 1) ws)) in
    ap (λ x. items_before (map item more) (scan_from program x (words_of (drop (i + 1) ws)))) t
    ∙ ap (λ xs. items_before (map item xs) rest) m
    ∙ ap (λ xs. items_before xs rest) (map_push item done g)
    ∙ sym (item_on (map item done) g.kind g.text.now rest)
    ∙ ap (λ o. items_before (map item done) (item_before o g.text.now rest)) (sym k)
    ∙ ap (items_before (map item done)) (sym (word_more program e ws i w g.text.now s h p q n))

pub word_passed : {Z : Type 0} (program : Program) (e f : Expects) (ws : List (String Z)) (i : ℕ) (w : String Z) (t : List ℕ) (s : Step) (done more : List Given) → i < length ws → w ≡ get_or ws i w → t ≡ string_bytes w
    → Some s ≡ step_of program e t → s.given ≡ None → more ≡ done → f ≡ s.then
    → items_before (map item more) (scan_from program f (words_of (drop (i + 1) ws))) ≡ items_before (map item done) (scan_from program e (words_of (drop i ws)))
word_passed program e f ws i w t s gone more h p q n k m u =
    let done : List Item = map item gone in
    let rest : Result (List Item) Fault = scan_from program s.then (words_of (drop (i + 1) ws)) in
    ap (λ x. items_before (map item more) (scan_from program x (words_of (drop (i + 1) ws)))) u
    ∙ ap (λ xs. items_before (map item xs) rest) m
    ∙ ap (λ o. items_before done (item_before o t rest)) (sym k) ∙ ap (items_before done) (sym (word_more program e ws i w t s h p q n))

pub words_end : {Z : Type 0} (program : Program) (e : Expects) (ws : List (String Z)) (i : ℕ) → length ws ≤ i → scan_from program e (words_of (drop i ws)) ≡ at_end e
unfolding scan_from
words_end program e ws i h = ap (λ vs. scan_from program e (words_of vs)) (drop_all i ws h)

pub value_missing : {Z : Type 0} (program : Program) (e : Expects) (ws : List (String Z)) (i : ℕ) (k : Kind) (done : List Item) → length ws ≤ i → e ≡ ValueOf k → items_before done (scan_from program e (words_of (drop i ws))) ≡ Err (no_value k)
value_missing program e ws i k done h p = ap (items_before done) (words_end program e ws i h ∙ ap at_end p)

pub words_done : {Z : Type 0} (program : Program) (e : Expects) (ws : List (String Z)) (i : ℕ) (done : List Item) → length ws ≤ i → ((k : Kind) → e ≡ ValueOf k → ⊥) → items_before done (scan_from program e (words_of (drop i ws))) ≡ Ok done
words_done program e ws i done h n = ap (items_before done) (words_end program e ws i h ∙ ended e n) ∙ ap Ok (append-nil done)
  where
    ended : (x : Expects) → ((k : Kind) → x ≡ ValueOf k → ⊥) → at_end x ≡ Ok []
    ended Word m = refl
    ended (ValueOf k) m = absurd (m k refl)
    ended expects.Operand m = refl
