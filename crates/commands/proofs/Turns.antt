-- Pairs and encrypted data keys are taken from the left: what one more word does to the whole.
use Rattle.std.proofs.Common.{◌≡◌, ℕ, ◌+◌, ◌<◌, ◌≤◌, List, [], ◌∷◌, ◌++◌, map, length, get_or, drop, Some, Option, sym, ap, ◌∙◌, append_assoc, append-nil, Bor}
use Rattle.std.proofs.lemmas.List.{at_drop_more, at_drop_all, map_push}
use Rattle.std.specs.Option.{option_map}
use Rattle.cli.specs.Context.{NamedValue, with_pair}
use Rattle.cli.specs.Line.{now_of}
use Rattle.cli.specs.Split.{parts, split_first, DataKeyParts, data_key_parts, split_data_key}
use Rattle.cli.specs.declared.split.DataKeyWord.{DataKeyWord}
use Rattle.commands.specs.Given.{put_pair, then_on, context_from, some_parts}

pub pair_taken : (w : List ℕ) (ws : List (List ℕ)) (n v : Bor (List ℕ)) (ps qs : List NamedValue) → option_map parts (Some (n, v)) ≡ split_first 61 w → with_pair (record { name = n.now; value = v.now }) ps ≡ Some qs
    → context_from qs ws ≡ context_from ps (w ∷ ws)
unfolding context_from
pair_taken w ws n v ps qs s e =
    sym
    (ap (λ o. then_on (put_pair o ps) (λ rs. context_from rs ws)) (sym s)
    ∙ ap (λ o. then_on o (λ rs. context_from rs ws)) e)

pub data_key_taken : (w : List ℕ) (ws : List (List ℕ)) (k : DataKeyWord) (all more : List DataKeyWord) → option_map data_key_parts (Some k) ≡ split_data_key w → more ≡ all ++ (k ∷ [])
    → map some_parts more ++ map split_data_key ws ≡ map some_parts all ++ map split_data_key (w ∷ ws)
data_key_taken w ws k all more s m =
    let rest : List (Option DataKeyParts) = map split_data_key ws in
    ap (λ xs. map some_parts xs ++ rest) m
    ∙ ap (λ xs. xs ++ rest) (map_push some_parts all k)
    ∙ append_assoc (map some_parts all) (some_parts k ∷ []) rest
    ∙ ap (λ o. map some_parts all ++ (o ∷ rest)) s

-- the same of lent words from a place on, and at their end
pub pair_more : (ws : List (Bor (List ℕ))) (i : ℕ) (d n v : Bor (List ℕ)) (ps qs : List NamedValue) → i < length ws → option_map parts (Some (n, v)) ≡ split_first 61 (get_or ws i d).now
    → with_pair (record { name = n.now; value = v.now }) ps ≡ Some qs → context_from qs (map now_of (drop (i + 1) ws)) ≡ context_from ps (map now_of (drop i ws))
pair_more ws i d n v ps qs h s e =
    pair_taken (get_or ws i d).now (map now_of (drop (i + 1) ws)) n v ps qs s e ∙ sym (at_drop_more (λ xs. context_from ps (map now_of xs)) ws i d h)

pub pairs_end : (ws : List (Bor (List ℕ))) (i : ℕ) (ps : List NamedValue) → length ws ≤ i → context_from ps (map now_of (drop i ws)) ≡ Some ps
unfolding context_from
pairs_end ws i ps h = at_drop_all (λ xs. context_from ps (map now_of xs)) ws i h

pub data_key_more : (ws : List (Bor (List ℕ))) (i : ℕ) (d : Bor (List ℕ)) (k : DataKeyWord) (all more : List DataKeyWord) → i < length ws → option_map data_key_parts (Some k) ≡ split_data_key (get_or ws i d).now
    → more ≡ all ++ (k ∷ []) → map some_parts more ++ map split_data_key (map now_of (drop (i + 1) ws)) ≡ map some_parts all ++ map split_data_key (map now_of (drop i ws))
data_key_more ws i d k all more h s m =
    data_key_taken (get_or ws i d).now (map now_of (drop (i + 1) ws)) k all more s m ∙ ap (λ xs. map some_parts all ++ xs) (sym (at_drop_more (λ xs. map split_data_key (map now_of xs)) ws i d h))

pub data_keys_end : (ws : List (Bor (List ℕ))) (i : ℕ) (done : List (Option DataKeyParts)) → length ws ≤ i → done ++ map split_data_key (map now_of (drop i ws)) ≡ done
data_keys_end ws i done h = ap (λ xs. done ++ xs) (at_drop_all (λ xs. map split_data_key (map now_of xs)) ws i h) ∙ append-nil done
