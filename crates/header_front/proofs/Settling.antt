-- Readers step by step: where a step took what it needs, the bytes settle it if what it left settles the rest.
use Rattle.std.proofs.Common.{◌≡◌, ℕ, ◌-◌, ◌≤◌, Bool, true, false, ◌&&◌, ltb, List, [], ◌∷◌, ◌++◌, length, sym, refl, ap, ◌∙◌, subst, append_assoc, arith, length-append, length-drop}
use lib.ListN as L
use Rattle.octets.specs.Bits.{pick}
use Rattle.octets.specs.Bytes.{all_bytes, bytes_eq, of_bytes}
use Rattle.octets.specs.Cut.{Cut, cut, cut_number, and_then, guard}
use Rattle.octets.proofs.Cuts.{the_cut, the_number, cut_some, cut_front, cut_parts, and_then_some}
use Rattle.octets.proofs.Numbers.{all_bytes_parts}
use Rattle.format.specs.Request.{Pair, EncryptedDataKey, rising}
use Rattle.format.specs.Reading.{ReadHeader, ReadPairs, ReadDataKeys, cut_field, is_empty, read_context, read_data_keys, read_header, read_pairs}
use Rattle.format.proofs.Steps.{and_then-cut, and_then_gave, and_then_put, cut_is, first_is_first}
use Rattle.format.proofs.FieldsRead.{data_keys_put, data_keys_read}
use Rattle.format.proofs.Further.{header_grows}
use Rattle.format.proofs.Headers.{header_read}
use Rattle.format.specs.Header.{header_bytes}
use Rattle.header_front.specs.Front.{HeaderWhole}
use Rattle.opening.proofs.Unlocking.{drop_front}
use Rattle.header_front.specs.Settled.{Settles, with_more, read_end, read_tail, read_data_keys_on}

cut_grown : (n : ℕ) (bs a r more : List ℕ) → (the_cut a r ∷ []) ≡ cut n bs → (the_cut a (r ++ more) ∷ []) ≡ cut n (bs ++ more)
cut_grown n bs a r more e =
    let p = cut_parts n bs a r e in
    sym (ap (λ l. cut n (l ++ more)) p.joined ∙ ap (λ l. cut n l) (append_assoc a r more) ∙ cut_front n a (r ++ more) p.long)

-- one step
settle_cut : (f : List ℕ → List ℕ → List ReadHeader) (n : ℕ) (bs a r : List ℕ) → (the_cut a r ∷ []) ≡ cut n bs → Settles r (f a) → Settles bs (λ xs. and_then (cut n xs) (λ c. f c.front c.rest))
settle_cut f n bs a r e h more =
    sym (and_then_some (the_cut a (r ++ more)) (cut n (bs ++ more)) (λ c. f c.front c.rest) (cut_grown n bs a r more e)) ∙ h more
    ∙ ap (λ l. with_more more l) (and_then_some (the_cut a r) (cut n bs) (λ c. f c.front c.rest) e)

settle_number : (f : ℕ → List ℕ → List ReadHeader) (k : ℕ) (bs : List ℕ) (n : ℕ) (r : List ℕ) → (the_number n r ∷ []) ≡ cut_number k bs → Settles r (f n) → Settles bs (λ xs. and_then (cut k xs) (λ c. f (of_bytes c.front) c.rest))
settle_number f k bs n r e h more =
    let x = and_then_gave (cut k bs) _ (the_number n r) [] (sym e) in
    let i : x.one.rest ≡ r = ap (λ y. y.rest) (first_is_first _ (the_number n r) [] [] x.then) in
    let v : of_bytes x.one.front ≡ n = ap (λ y. y.value) (first_is_first _ (the_number n r) [] [] x.then) in
    let p = cut_is k bs x.one x.more x.here in
    let c : (the_cut x.one.front x.one.rest ∷ []) ≡ cut k bs = sym (ap (λ l. cut k l) (sym p.1) ∙ cut_front k x.one.front x.one.rest p.0) in
    settle_cut (λ a. f (of_bytes a)) k bs x.one.front x.one.rest c (subst (λ m. Settles x.one.rest (f m)) (sym v) (subst (λ l. Settles l (f n)) (sym i) h)) more

settle_guard : (b : Bool) (read : List ℕ → List ReadHeader) (r : List ℕ) → (b ≡ true → Settles r read) → Settles r (λ xs. guard b (read xs))
unfolding guard
settle_guard true read r h more = h refl more
settle_guard false read r h more = refl

-- the end of a header
end_settles : (id : List ℕ) (ps : List Pair) (ks : List EncryptedDataKey) (size : ℕ) (bs : List ℕ) → 48 ≤ length bs → Settles bs (read_end id ps ks size)
end_settles id ps ks size bs h =
    let l = length-drop 32 bs in
    settle_cut (λ k xs. and_then (cut 16 xs) (λ g. record { header = record { id = id; context = ps; encrypted_data_keys = ks; frame_length = size; commitment = k }; tag = g.front; rest = g.rest } ∷ [])) 32 bs (L.take 32 bs) (L.drop 32 bs) (cut_some 32 bs _ _ (omega arith) refl refl)
    (settle_cut (λ g xs. record { header = record { id = id; context = ps; encrypted_data_keys = ks; frame_length = size; commitment = L.take 32 bs }; tag = g; rest = xs } ∷ []) 16 (L.drop 32 bs) (L.take 16 (L.drop 32 bs)) (L.drop 16 (L.drop 32 bs)) (cut_some 16 (L.drop 32 bs) _ _ (omega arith) refl refl)
    (λ more. refl))

pub tail_settles : (id : List ℕ) (ps : List Pair) (ks : List EncryptedDataKey) (bs a r : List ℕ) → (the_cut a r ∷ []) ≡ cut 1 bs
    → (bytes_eq a (2 ∷ []) ≡ true → (n : ℕ) × ((r' : List ℕ) × (((the_number n r' ∷ []) ≡ cut_number 4 r) × (ltb 0 n ≡ true → 48 ≤ length r')))) → Settles bs (read_tail id ps ks)
tail_settles id ps ks bs a r e h =
    settle_cut (λ t xs. guard (bytes_eq t (2 ∷ [])) (and_then (cut 4 xs) (λ f. guard (ltb 0 (of_bytes f.front)) (read_end id ps ks (of_bytes f.front) f.rest)))) 1 bs a r e
    (settle_guard (bytes_eq a (2 ∷ [])) (λ xs. and_then (cut 4 xs) (λ f. guard (ltb 0 (of_bytes f.front)) (read_end id ps ks (of_bytes f.front) f.rest))) r (λ t.
    let w = h t in
    settle_number (λ n xs. guard (ltb 0 n) (read_end id ps ks n xs)) 4 r w.0 w.1.0 w.1.1.0
    (settle_guard (ltb 0 w.0) (read_end id ps ks w.0) w.1.0 (λ l. end_settles id ps ks w.0 w.1.0 (w.1.1.1 l)))))

-- the encrypted data keys
abbrev the_data_keys : List EncryptedDataKey → List ℕ → ReadDataKeys
the_data_keys ks r = record { encrypted_data_keys = ks; rest = r }

keys_settle : (id : List ℕ) (ps : List Pair) (n : ℕ) (bs : List ℕ) (ks : List EncryptedDataKey) (rest : List ℕ) → all_bytes bs ≡ true → (the_data_keys ks rest ∷ []) ≡ read_data_keys n bs → Settles rest (read_tail id ps ks)
    → Settles bs (λ xs. and_then (read_data_keys n xs) (λ h. read_tail id ps h.encrypted_data_keys h.rest))
keys_settle id ps n bs ks rest b e h more =
    let r = data_keys_read n bs (the_data_keys ks rest) [] b (sym e) in
    let g : read_data_keys n (bs ++ more) ≡ the_data_keys ks (rest ++ more) ∷ [] = ap (λ j. read_data_keys j (bs ++ more)) (sym r.count) ∙ ap (λ l. read_data_keys (length ks) l) (sym (ap (λ l. l ++ more) r.written) ∙ append_assoc _ rest more) ∙ data_keys_put ks (rest ++ more) r.short_all in
    sym (and_then_some (the_data_keys ks (rest ++ more)) (read_data_keys n (bs ++ more)) (λ h. read_tail id ps h.encrypted_data_keys h.rest) (sym g))
    ∙ h more
    ∙ ap (λ l. with_more more l) (and_then_some (the_data_keys ks rest) (read_data_keys n bs) (λ h. read_tail id ps h.encrypted_data_keys h.rest) e)

number_rest_bytes : (k : ℕ) (bs : List ℕ) (n : ℕ) (r : List ℕ) → all_bytes bs ≡ true → (the_number n r ∷ []) ≡ cut_number k bs → all_bytes r ≡ true
number_rest_bytes k bs n r b e =
    let x = and_then_gave (cut k bs) (λ c. the_number (of_bytes c.front) c.rest ∷ []) (the_number n r) [] (sym e) in
    let p = cut_is k bs x.one x.more x.here in
    subst (λ l. all_bytes l ≡ true) (ap (λ y. y.rest) (first_is_first _ (the_number n r) [] [] x.then)) (all_bytes_parts x.one.front x.one.rest (ap all_bytes p.1 ∙ b)).1

pub data_keys_settle : (id : List ℕ) (ps : List Pair) (bs : List ℕ) (n : ℕ) (r : List ℕ) → all_bytes bs ≡ true → (the_number n r ∷ []) ≡ cut_number 2 bs
    → (ltb 0 n ≡ true → (ks : List EncryptedDataKey) × ((rest : List ℕ) × (((the_data_keys ks rest ∷ []) ≡ read_data_keys n r) × Settles rest (read_tail id ps ks)))) → Settles bs (read_data_keys_on id ps)
data_keys_settle id ps bs n r b e h =
    settle_number (λ n xs. guard (ltb 0 n) (and_then (read_data_keys n xs) (λ h. read_tail id ps h.encrypted_data_keys h.rest))) 2 bs n r e
    (settle_guard (ltb 0 n) (λ xs. and_then (read_data_keys n xs) (λ h. read_tail id ps h.encrypted_data_keys h.rest)) r (λ l. let w = h l in keys_settle id ps n r w.0 w.1.0 (number_rest_bytes 2 bs n r b e) w.1.1.0 w.1.1.1))

-- the context: what is in its field doesn't depend on what follows
field_grown : (bs more : List ℕ) (x : Cut) (xs : List Cut) → cut_field bs ≡ x ∷ xs → cut_field (bs ++ more) ≡ the_cut x.front (x.rest ++ more) ∷ []
field_grown bs more x xs e =
    let c = and_then-cut 2 bs (λ c. cut (of_bytes c.front) c.rest) x xs e in
    let p = cut_is (of_bytes c.front) c.rest x xs c.then in
    ap cut_field (sym (ap (λ l. l ++ more) c.whole) ∙ append_assoc c.front c.rest more)
    ∙ and_then_put 2 c.front (c.rest ++ more) (λ c. cut (of_bytes c.front) c.rest) c.long
    ∙ ap (λ l. cut (of_bytes c.front) l) (sym (ap (λ l. l ++ more) p.1) ∙ append_assoc x.front x.rest more)
    ∙ cut_front (of_bytes c.front) x.front (x.rest ++ more) p.0

module _ (read : List Pair → List ℕ → List ReadHeader) (rest : List ℕ) (h : (ps : List Pair) → Settles rest (read ps)) (more : List ℕ) where
  abbrev then_read : ReadPairs → List ReadHeader
  then_read y = read y.pairs y.rest

  guarded : (b : Bool) (ps : List Pair) → and_then (guard b (record { pairs = ps; rest = rest ++ more } ∷ [])) then_read ≡ with_more more (and_then (guard b (record { pairs = ps; rest = rest } ∷ [])) then_read)
  unfolding guard and_then
  guarded true ps = h ps more
  guarded false ps = refl

  paired : (g : ReadPairs → Bool) (xs : List ReadPairs)
      → and_then (and_then xs (λ ps. guard (g ps) (record { pairs = ps.pairs; rest = rest ++ more } ∷ []))) then_read ≡ with_more more (and_then (and_then xs (λ ps. guard (g ps) (record { pairs = ps.pairs; rest = rest } ∷ []))) then_read)
  unfolding and_then
  paired g [] = refl
  paired g (ps ∷ xs) = guarded (g ps) ps.pairs

  counted : (g : ReadPairs → Bool) (p : Cut → List ReadPairs) (xs : List Cut)
      → and_then (and_then xs (λ n. and_then (p n) (λ ps. guard (g ps) (record { pairs = ps.pairs; rest = rest ++ more } ∷ [])))) then_read
      ≡ with_more more (and_then (and_then xs (λ n. and_then (p n) (λ ps. guard (g ps) (record { pairs = ps.pairs; rest = rest } ∷ [])))) then_read)
  unfolding and_then
  counted g p [] = refl
  counted g p (n ∷ xs) = paired g (p n)

  chosen : (b : Bool) (g : ReadPairs → Bool) (p : Cut → List ReadPairs) (xs : List Cut)
      → and_then (pick b (record { pairs = []; rest = rest ++ more } ∷ []) (and_then xs (λ n. and_then (p n) (λ ps. guard (g ps) (record { pairs = ps.pairs; rest = rest ++ more } ∷ []))))) then_read
      ≡ with_more more (and_then (pick b (record { pairs = []; rest = rest } ∷ []) (and_then xs (λ n. and_then (p n) (λ ps. guard (g ps) (record { pairs = ps.pairs; rest = rest } ∷ []))))) then_read)
  unfolding pick and_then
  chosen true g p xs = h [] more
  chosen false g p xs = counted g p xs

abbrev context_in : List ℕ → List ℕ → List ReadPairs
context_in front rest =
    pick (is_empty front) (record { pairs = []; rest = rest } ∷ [])
    (and_then (cut 2 front) (λ n. and_then (read_pairs (of_bytes n.front) n.rest) (λ ps. guard (is_empty ps.rest && (ltb 0 (length ps.pairs) && rising ps.pairs)) (record { pairs = ps.pairs; rest = rest } ∷ []))))

context_settles : (read : List Pair → List ℕ → List ReadHeader) (bs field rest : List ℕ) → (the_cut field rest ∷ []) ≡ cut_field bs → ((ps : List Pair) → Settles rest (read ps)) → Settles bs (λ xs. and_then (read_context xs) (λ y. read y.pairs y.rest))
context_settles read bs field rest e h more =
    ap (λ l. and_then l (λ y. read y.pairs y.rest)) (sym (and_then_some (the_cut field (rest ++ more)) (cut_field (bs ++ more)) (λ c. context_in c.front c.rest) (sym (field_grown bs more (the_cut field rest) [] (sym e)))))
    ∙ chosen read rest h more (is_empty field) _ _ (cut 2 field)
    ∙ ap (λ l. with_more more (and_then l (λ y. read y.pairs y.rest))) (and_then_some (the_cut field rest) (cut_field bs) (λ c. context_in c.front c.rest) e)

pub header_settles : (bs a r : List ℕ) → (the_cut a r ∷ []) ≡ cut 3 bs
    → (bytes_eq a (2 ∷ (4 ∷ (120 ∷ []))) ≡ true → (id : List ℕ) × ((r' : List ℕ) × (((the_cut id r' ∷ []) ≡ cut 32 r) × ((field : List ℕ) × ((rest : List ℕ) × (((the_cut field rest ∷ []) ≡ cut_field r') × ((ps : List Pair) → Settles rest (read_data_keys_on id ps)))))))) → Settles bs read_header
unfolding read_header
header_settles bs a r e h =
    settle_cut (λ v xs. guard (bytes_eq v (2 ∷ (4 ∷ (120 ∷ [])))) (and_then (cut 32 xs) (λ i. and_then (read_context i.rest) (λ y. read_data_keys_on i.front y.pairs y.rest)))) 3 bs a r e
    (settle_guard (bytes_eq a (2 ∷ (4 ∷ (120 ∷ [])))) (λ xs. and_then (cut 32 xs) (λ i. and_then (read_context i.rest) (λ y. read_data_keys_on i.front y.pairs y.rest))) r (λ t.
    let w = h t in
    settle_cut (λ i xs. and_then (read_context xs) (λ y. read_data_keys_on i y.pairs y.rest)) 32 r w.0 w.1.0 w.1.1.0
    (context_settles (read_data_keys_on w.0) w.1.0 w.1.1.1.0 w.1.1.1.1.0 w.1.1.1.1.1.0 w.1.1.1.1.1.1)))

-- a header that was read, with more behind it
pub header_whole : (bs : List ℕ) (x : ReadHeader) (len : ℕ) → all_bytes bs ≡ true → (x ∷ []) ≡ read_header bs → len ≡ length bs - length x.rest → HeaderWhole bs len
header_whole bs x len b e l =
    let w = (header_read bs x [] b (sym e)).written in
    record {
      read = x;
      found = λ more. header_grows more bs x [] (sym e);
      within = omega arith;
      rest = ap (λ n. L.drop n bs) l ∙ drop_front (header_bytes x.header ++ x.tag) x.rest bs (append_assoc (header_bytes x.header) x.tag x.rest ∙ w);
    }

pub rest_within : (bs : List ℕ) (x : ReadHeader) → all_bytes bs ≡ true → (x ∷ []) ≡ read_header bs → length x.rest ≤ length bs
rest_within bs x b e =
    let w = ap length (header_read bs x [] b (sym e)).written in
    let s = length-append (header_bytes x.header) (x.tag ++ x.rest) in
    let t = length-append x.tag x.rest in
    omega arith

pub still_none : (bs : List ℕ) → [] ≡ read_header bs → Settles bs read_header → (more : List ℕ) → [] ≡ read_header (bs ++ more)
still_none bs e h more = ap (λ l. with_more more l) e ∙ sym (h more)
