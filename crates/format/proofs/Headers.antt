-- Headers are written in one way; what was read is, written, the bytes that were read; and what is written can be read.
use Rattle.std.proofs.Common.{◌≡◌, ℕ, ◌+◌, ◌^◌, ◌<◌, ◌≤◌, true, ltb, List, [], ◌∷◌, ◌++◌, length, sym, refl, ap, ◌∙◌, subst, ap₂, append_assoc, arith}
use Rattle.std.proofs.lemmas.Bool.{lt-ltb, ltb-true}
use Rattle.octets.specs.Bytes.{all_bytes, bytes_eq, of_bytes, to_bytes}
use Rattle.octets.specs.Cut.{and_then, cut, guard}
use Rattle.octets.proofs.Cuts.{guard_true}
use Rattle.octets.proofs.Lists.{halves}
use Rattle.octets.proofs.Numbers.{all_bytes_parts, bytes_eq_refl, bytes_eq_true, length-to_bytes, of_bytes_below, to_bytes_injective, to_of_bytes}
use Rattle.format.specs.Header.{Header, context_bytes, header_bytes}
use Rattle.format.specs.Reading.{ReadHeader, read_context, read_data_keys, read_header}
use Rattle.format.specs.Request.{EncryptedDataKey, Pair, data_keys_bytes, pairs_bytes, rising, short_data_keys, short_pairs}
use Rattle.format.specs.Statements.{ReadIsWritten, header_and_tag}
use Rattle.format.proofs.Fields.{context_parts, data_keys_parts, of_four, of_two, two_parts}
use Rattle.format.proofs.FieldsRead.{ContextRead, context_put, context_read, data_keys_put, data_keys_read, two_of}
use Rattle.format.proofs.Steps.{and_then-cut, and_then_gave, and_then_one, and_then_put, first_is_first, guard_gave}

-- parts that fit their places
pub record Fits (h : Header) : Type 0 where
  pub id_long : length h.id ≡ 32
  pub pairs_short : short_pairs h.context ≡ true
  pub pairs_fit : 2 + length (pairs_bytes h.context) ≤ 65535
  pub few_keys : length h.encrypted_data_keys ≤ 65535
  pub data_keys_short : short_data_keys h.encrypted_data_keys ≡ true
  pub low : 0 < h.frame_length
  pub high : h.frame_length < 4294967296

-- a header's bytes after the id, after the context, after the encrypted data keys
abbrev pub after_data_keys : Header → List ℕ
after_data_keys h = (2 ∷ []) ++ (to_bytes 4 h.frame_length ++ h.commitment)

abbrev pub after_context : Header → List ℕ
after_context h = to_bytes 2 (length h.encrypted_data_keys) ++ (data_keys_bytes h.encrypted_data_keys ++ after_data_keys h)

abbrev pub after_id : Header → List ℕ
after_id h = context_bytes h.context ++ after_context h

pub header_injective : (g h : Header) → Fits g → Fits h → header_bytes g ≡ header_bytes h → g ≡ h
header_injective g h fg fh e =
    let a = halves (2 ∷ (4 ∷ (120 ∷ []))) (2 ∷ (4 ∷ (120 ∷ []))) (g.id ++ after_id g) (h.id ++ after_id h) refl e in
    let b = halves g.id h.id (after_id g) (after_id h) (fg.id_long ∙ sym fh.id_long) a.1 in
    let d = context_parts g.context h.context (after_context g) (after_context h) fg.pairs_short fh.pairs_short fg.pairs_fit fh.pairs_fit b.1 in
    let f = two_parts (length g.encrypted_data_keys) (length h.encrypted_data_keys) (data_keys_bytes g.encrypted_data_keys ++ after_data_keys g) (data_keys_bytes h.encrypted_data_keys ++ after_data_keys h) fg.few_keys fh.few_keys d.1 in
    let i = data_keys_parts g.encrypted_data_keys h.encrypted_data_keys (after_data_keys g) (after_data_keys h) fg.data_keys_short fh.data_keys_short f.0 f.1 in
    let j = halves (2 ∷ []) (2 ∷ []) (to_bytes 4 g.frame_length ++ g.commitment) (to_bytes 4 h.frame_length ++ h.commitment) refl i.1 in
    let k = halves (to_bytes 4 g.frame_length) (to_bytes 4 h.frame_length) g.commitment h.commitment (length-to_bytes 4 g.frame_length ∙ sym (length-to_bytes 4 h.frame_length)) j.1 in
    let hg = fg.high in
    let hh = fh.high in
    let size : g.frame_length ≡ h.frame_length = to_bytes_injective 4 g.frame_length h.frame_length (omega arith) (omega arith) k.0 in
    let id = b.0 in
    let context = d.0 in
    let keys = i.0 in
    let commit = k.1 in
    λ z. record { id = id z; context = context z; encrypted_data_keys = keys z; frame_length = size z; commitment = commit z }

pub record HeaderRead (bs : List ℕ) (x : ReadHeader) : Type 0 where
  pub written : header_and_tag x ≡ bs
  pub fits : Fits x.header

four_of : (a : List ℕ) → length a ≡ 4 → all_bytes a ≡ true → (a ≡ to_bytes 4 (of_bytes a)) × (of_bytes a < 4294967296)
four_of a l b = (sym (to_of_bytes 4 a l b), let h : of_bytes a < 256 ^ 4 = subst (λ j. of_bytes a < 256 ^ j) l (of_bytes_below a b) in omega arith)

-- the parts of a header, from the last to the first: what was read, and that it is what stands there
abbrev pub read_as : List ℕ → List Pair → List EncryptedDataKey → ℕ → List ℕ → List ℕ → List ℕ → ReadHeader
read_as id ps hs size k g r = record { header = record { id = id; context = ps; encrypted_data_keys = hs; frame_length = size; commitment = k }; tag = g; rest = r }

abbrev pub read_frame_length : List ℕ → List Pair → List EncryptedDataKey → List ℕ → List ReadHeader
read_frame_length id ps hs bs =
    and_then (cut 1 bs) (λ t. guard (bytes_eq t.front (2 ∷ []))
    (and_then (cut 4 t.rest) (λ f. guard (ltb 0 (of_bytes f.front))
    (and_then (cut 32 f.rest) (λ k. and_then (cut 16 k.rest) (λ g. read_as id ps hs (of_bytes f.front) k.front g.front g.rest ∷ []))))))

abbrev pub read_after_context : List ℕ → List Pair → List ℕ → List ReadHeader
read_after_context id ps bs =
    and_then (cut 2 bs) (λ n. guard (ltb 0 (of_bytes n.front)) (and_then (read_data_keys (of_bytes n.front) n.rest) (λ h. read_frame_length id ps h.encrypted_data_keys h.rest)))

record FrameLengthRead (id : List ℕ) (ps : List Pair) (hs : List EncryptedDataKey) (bs : List ℕ) (x : ReadHeader) : Type 0 where
  id_is : x.header.id ≡ id
  context_is : x.header.context ≡ ps
  data_keys_are : x.header.encrypted_data_keys ≡ hs
  written : after_data_keys x.header ++ (x.tag ++ x.rest) ≡ bs
  low : 0 < x.header.frame_length
  high : x.header.frame_length < 4294967296

frame_length_read : (id : List ℕ) (ps : List Pair) (hs : List EncryptedDataKey) (bs : List ℕ) (x : ReadHeader) (xs : List ReadHeader) → all_bytes bs ≡ true → read_frame_length id ps hs bs ≡ x ∷ xs → FrameLengthRead id ps hs bs x
frame_length_read id ps hs bs x xs bb e =
    let t = and_then-cut 1 bs _ x xs e in
    let bt = (all_bytes_parts t.front t.rest (rw t.whole bb)).1 in
    let t2 = guard_gave (bytes_eq t.front (2 ∷ [])) _ x xs t.then in
    let f = and_then-cut 4 t.rest _ x xs t2.1 in
    let bf = all_bytes_parts f.front f.rest (rw f.whole bt) in
    let f2 = guard_gave (ltb 0 (of_bytes f.front)) _ x xs f.then in
    let k = and_then-cut 32 f.rest _ x xs f2.1 in
    let g = and_then-cut 16 k.rest _ x xs k.then in
    let f4 = four_of f.front f.long bf.0 in
    subst (FrameLengthRead id ps hs bs) (first_is_first (read_as id ps hs (of_bytes f.front) k.front g.front g.rest) x [] xs g.then)
    (record {
      id_is = refl;
      context_is = refl;
      data_keys_are = refl;
      written = written t.front t.rest f.front f.rest k.front k.rest g.front g.rest (bytes_eq_true t.front (2 ∷ []) t2.0) f4.0 t.whole f.whole k.whole g.whole;
      low = ltb-true 0 (of_bytes f.front) f2.0;
      high = f4.1;
    })
  where
    written : (t tr f fr k kr g gr : List ℕ) → t ≡ 2 ∷ [] → f ≡ to_bytes 4 (of_bytes f) → t ++ tr ≡ bs → f ++ fr ≡ tr → k ++ kr ≡ fr → g ++ gr ≡ kr
        → ((2 ∷ []) ++ (to_bytes 4 (of_bytes f) ++ k)) ++ (g ++ gr) ≡ bs
    written t tr f fr k kr g gr et ef wt wf wk wg =
        ap (λ ys. 2 ∷ ys) (append_assoc (to_bytes 4 (of_bytes f)) k (g ++ gr) ∙ (ap₂ (λ xs ys. xs ++ ys) (sym ef) (ap (λ ys. k ++ ys) wg ∙ wk) ∙ wf))
        ∙ (ap (λ xs. xs ++ tr) (sym et) ∙ wt)

record AfterContextRead (id : List ℕ) (ps : List Pair) (bs : List ℕ) (x : ReadHeader) : Type 0 where
  id_is : x.header.id ≡ id
  context_is : x.header.context ≡ ps
  written : after_context x.header ++ (x.tag ++ x.rest) ≡ bs
  few_keys : length x.header.encrypted_data_keys ≤ 65535
  data_keys_short : short_data_keys x.header.encrypted_data_keys ≡ true
  low : 0 < x.header.frame_length
  high : x.header.frame_length < 4294967296

after_context_read : (id : List ℕ) (ps : List Pair) (bs : List ℕ) (x : ReadHeader) (xs : List ReadHeader) → all_bytes bs ≡ true → read_after_context id ps bs ≡ x ∷ xs → AfterContextRead id ps bs x
after_context_read id ps bs x xs bb e =
    let n = and_then-cut 2 bs _ x xs e in
    let bn = all_bytes_parts n.front n.rest (rw n.whole bb) in
    let n2 = guard_gave (ltb 0 (of_bytes n.front)) _ x xs n.then in
    let h = and_then_gave (read_data_keys (of_bytes n.front) n.rest) _ x xs n2.1 in
    let hr = data_keys_read (of_bytes n.front) n.rest h.one h.more bn.1 h.here in
    let bh = (all_bytes_parts (data_keys_bytes h.one.encrypted_data_keys) h.one.rest (rw hr.written bn.1)).1 in
    let nt = two_of n.front (length h.one.encrypted_data_keys) n.long bn.0 (sym hr.count) in
    let s = frame_length_read id ps h.one.encrypted_data_keys h.one.rest x xs bh h.then in
    go n.front n.rest h.one.encrypted_data_keys h.one.rest nt.0 nt.1 hr.short_all n.whole hr.written s
  where
    go : (n nr : List ℕ) (hs : List EncryptedDataKey) (hr : List ℕ) → n ≡ to_bytes 2 (length hs) → length hs ≤ 65535 → short_data_keys hs ≡ true → n ++ nr ≡ bs → data_keys_bytes hs ++ hr ≡ nr
        → FrameLengthRead id ps hs hr x → AfterContextRead id ps bs x
    go n nr hs hr en ln sh wn wh s =
        let eh = s.data_keys_are in
        let end : List ℕ = x.tag ++ x.rest in
        record {
          id_is = s.id_is;
          context_is = s.context_is;
          written =
              ap (λ y. (to_bytes 2 (length y) ++ (data_keys_bytes y ++ after_data_keys x.header)) ++ end) eh
              ∙ (append_assoc (to_bytes 2 (length hs)) (data_keys_bytes hs ++ after_data_keys x.header) end
              ∙ (ap₂ (λ xs ys. xs ++ ys) (sym en) (append_assoc (data_keys_bytes hs) (after_data_keys x.header) end ∙ (ap (λ ys. data_keys_bytes hs ++ ys) s.written ∙ wh)) ∙ wn));
          few_keys = subst (λ y. length y ≤ 65535) (sym eh) ln;
          data_keys_short = ap (λ y. short_data_keys y) eh ∙ sh;
          low = s.low;
          high = s.high;
        }

pub header_read : (bs : List ℕ) (x : ReadHeader) (xs : List ReadHeader) → all_bytes bs ≡ true → read_header bs ≡ x ∷ xs → HeaderRead bs x
unfolding read_header
header_read bs x xs bb e =
    let v = and_then-cut 3 bs _ x xs e in
    let bv = (all_bytes_parts v.front v.rest (rw v.whole bb)).1 in
    let v2 = guard_gave (bytes_eq v.front (2 ∷ (4 ∷ (120 ∷ [])))) _ x xs v.then in
    let i = and_then-cut 32 v.rest _ x xs v2.1 in
    let bi = (all_bytes_parts i.front i.rest (rw i.whole bv)).1 in
    let c = and_then_gave (read_context i.rest) (λ y. read_after_context i.front y.pairs y.rest) x xs i.then in
    let cr = context_read i.rest c.one c.more bi c.here in
    let bc = (all_bytes_parts (context_bytes c.one.pairs) c.one.rest (rw cr.written bi)).1 in
    go v.front v.rest i.front i.rest c.one.pairs c.one.rest (bytes_eq_true v.front (2 ∷ (4 ∷ (120 ∷ []))) v2.0) v.whole i.long i.whole cr
    (after_context_read i.front c.one.pairs c.one.rest x xs bc c.then)
  where
    go : (v vr i ir : List ℕ) (ps : List Pair) (cr : List ℕ) → v ≡ 2 ∷ (4 ∷ (120 ∷ [])) → v ++ vr ≡ bs → length i ≡ 32 → i ++ ir ≡ vr → ContextRead ir (record { pairs = ps; rest = cr })
        → AfterContextRead i ps cr x → HeaderRead bs x
    go v vr i ir ps cr ev wv li wi c r =
        let ei = r.id_is in
        let ec = r.context_is in
        let end : List ℕ = x.tag ++ x.rest in
        record {
          written =
              ap₂ (λ y z. ((2 ∷ (4 ∷ (120 ∷ []))) ++ (y ++ (context_bytes z ++ after_context x.header))) ++ end) ei ec
              ∙ (ap₂ (λ xs ys. xs ++ ys) (sym ev)
              (append_assoc i (context_bytes ps ++ after_context x.header) end
              ∙ (ap (λ ys. i ++ ys) (append_assoc (context_bytes ps) (after_context x.header) end ∙ (ap (λ ys. context_bytes ps ++ ys) r.written ∙ c.written)) ∙ wi))
              ∙ wv);
          fits = record {
            id_long = ap length ei ∙ li;
            pairs_short = ap (λ y. short_pairs y) ec ∙ c.short_all;
            pairs_fit = subst (λ y. 2 + length (pairs_bytes y) ≤ 65535) (sym ec) c.little;
            few_keys = r.few_keys;
            data_keys_short = r.data_keys_short;
            low = r.low;
            high = r.high;
          };
        }

pub read_is_written : ReadIsWritten
unfolding ReadIsWritten
read_is_written bs x bb e = (header_read bs x [] bb e).written

-- a header and its tag, written, are read
frame_length_put : (id : List ℕ) (ps : List Pair) (hs : List EncryptedDataKey) (size : ℕ) (k g r : List ℕ) → 0 < size → size < 4294967296 → length k ≡ 32 → length g ≡ 16
    → read_frame_length id ps hs ((2 ∷ []) ++ (to_bytes 4 size ++ (k ++ (g ++ r)))) ≡ read_as id ps hs size k g r ∷ []
frame_length_put id ps hs size k g r low high lk lg =
    let e : of_bytes (to_bytes 4 size) ≡ size = of_four size high in
    and_then_put 1 (2 ∷ []) (to_bytes 4 size ++ (k ++ (g ++ r))) _ refl
    ∙ (guard_true (bytes_eq (2 ∷ []) (2 ∷ [])) _ (bytes_eq_refl (2 ∷ []))
    ∙ (and_then_put 4 (to_bytes 4 size) (k ++ (g ++ r)) _ (length-to_bytes 4 size)
    ∙ (guard_true (ltb 0 (of_bytes (to_bytes 4 size))) _ (lt-ltb 0 (of_bytes (to_bytes 4 size)) (omega arith))
    ∙ (and_then_put 32 k (g ++ r) _ lk ∙ (and_then_put 16 g r _ lg ∙ ap (λ n. read_as id ps hs n k g r ∷ []) e)))))

after_context_put : (id : List ℕ) (ps : List Pair) (hs : List EncryptedDataKey) (b : List ℕ) (x : ReadHeader) → 0 < length hs → length hs ≤ 65535 → short_data_keys hs ≡ true → read_frame_length id ps hs b ≡ x ∷ []
    → read_after_context id ps (to_bytes 2 (length hs) ++ (data_keys_bytes hs ++ b)) ≡ x ∷ []
after_context_put id ps hs b x low few sh e =
    let n : of_bytes (to_bytes 2 (length hs)) ≡ length hs = of_two (length hs) few in
    and_then_put 2 (to_bytes 2 (length hs)) (data_keys_bytes hs ++ b) _ (length-to_bytes 2 (length hs))
    ∙ (guard_true (ltb 0 (of_bytes (to_bytes 2 (length hs)))) _ (lt-ltb 0 (of_bytes (to_bytes 2 (length hs))) (omega arith))
    ∙ (and_then_one (read_data_keys (of_bytes (to_bytes 2 (length hs))) (data_keys_bytes hs ++ b)) (record { encrypted_data_keys = hs; rest = b }) (λ h. read_frame_length id ps h.encrypted_data_keys h.rest)
    (ap (λ k. read_data_keys k (data_keys_bytes hs ++ b)) n ∙ data_keys_put hs b sh) ∙ e))

regroup : (a b c d e f g h r : List ℕ) → (a ++ (b ++ (c ++ (d ++ (e ++ (f ++ (g ++ h))))))) ++ r ≡ a ++ (b ++ (c ++ (d ++ (e ++ (f ++ (g ++ (h ++ r)))))))
regroup a b c d e f g h r = simp append_assoc

pub header_put : (h : Header) (g r : List ℕ) → Fits h → rising h.context ≡ true → 0 < length h.encrypted_data_keys → length h.commitment ≡ 32 → length g ≡ 16
    → read_header (header_bytes h ++ (g ++ r)) ≡ record { header = h; tag = g; rest = r } ∷ []
unfolding read_header
header_put h g r f up held lk lg =
    let mark : List ℕ = 2 ∷ (4 ∷ (120 ∷ [])) in
    let a : List ℕ = (2 ∷ []) ++ (to_bytes 4 h.frame_length ++ (h.commitment ++ (g ++ r))) in
    let b : List ℕ = to_bytes 2 (length h.encrypted_data_keys) ++ (data_keys_bytes h.encrypted_data_keys ++ a) in
    let d : List ℕ = context_bytes h.context ++ b in
    ap read_header (regroup mark h.id (context_bytes h.context) (to_bytes 2 (length h.encrypted_data_keys)) (data_keys_bytes h.encrypted_data_keys) (2 ∷ []) (to_bytes 4 h.frame_length) h.commitment (g ++ r))
    ∙ (and_then_put 3 mark (h.id ++ d) _ refl
    ∙ (guard_true (bytes_eq mark mark) _ (bytes_eq_refl mark)
    ∙ (and_then_put 32 h.id d _ f.id_long
    ∙ (and_then_one (read_context d) (record { pairs = h.context; rest = b }) (λ c. read_after_context h.id c.pairs c.rest) (context_put h.context b f.pairs_short f.pairs_fit up)
    ∙ after_context_put h.id h.context h.encrypted_data_keys a (read_as h.id h.context h.encrypted_data_keys h.frame_length h.commitment g r) held f.few_keys f.data_keys_short
    (frame_length_put h.id h.context h.encrypted_data_keys h.frame_length h.commitment g r f.low f.high lk lg)))))
