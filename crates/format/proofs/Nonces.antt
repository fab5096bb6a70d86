-- No two pieces of a message are sealed with the same nonce.
use Rattle.std.proofs.Common.{◌≡◌, ℕ, zero, suc, ◌+◌, ◌<◌, ◌≤◌, Bool, true, false, ltb, List, [], ◌∷◌, length, sym, refl, ⊎_elim, arith}
use Rattle.std.proofs.lemmas.Bool.{cases_Bool, or_from}
use Rattle.std.specs.List.{AllByRecursion as All}
use Rattle.octets.specs.Bits.{pick}
use Rattle.octets.specs.Bytes.{bytes_eq, drop, repeat, take, to_bytes}
use Rattle.octets.proofs.Numbers.{bytes_eq_true}
use Rattle.gcm.specs.Gcm.{Sealed}
use Rattle.format.specs.Header.{header_of}
use Rattle.format.specs.Message.{frame_pieces}
use Rattle.format.specs.Piece.{Piece, frame_piece, header_piece, seal_frame, seal_header}
use Rattle.format.specs.Statements.{NoncesDiffer, nonce_among, nonce_twice}
use Rattle.format.proofs.Pieces.{Numbered, all_map, not_zeros, number_is, numbered_of, own_frames, own_key, own_numbered}
use Rattle.format.proofs.Requests.{Good, good_is}

same_ne : (xs ys : List ℕ) → (xs ≡ ys → ⊥) → bytes_eq xs ys ≡ false
same_ne xs ys n = ⊎_elim (λ h. absurd (n (bytes_eq_true xs ys h))) (λ h. h) (cases_Bool (bytes_eq xs ys))

away : (p : Piece) (qs : List Piece) → All (λ q. p.nonce ≡ q.nonce → ⊥) qs → nonce_among p qs ≡ false
unfolding nonce_among
away p [] a = refl
away p (q ∷ qs) a = or_from (bytes_eq p.nonce q.nonce) (nonce_among p qs) (same_ne p.nonce q.nonce a.0) (away p qs a.1)

first_away : (dk id : List ℕ) (n : ℕ) (last : Bool) (s : Sealed) (qs : List Piece) → n < 18446744073709551616 → All (Numbered dk id (suc n)) qs → nonce_among (frame_piece dk id last n s) qs ≡ false
first_away dk id n last s qs h a =
    away (frame_piece dk id last n s) qs
    (all_map (Numbered dk id (suc n)) (λ q. to_bytes 12 n ≡ q.nonce → ⊥) qs (λ q b e. let k : suc n ≤ n = number_is dk id (suc n) q n h b (sym e) in omega arith) a)

once : (m : ℕ) (dk id : List ℕ) (size n : ℕ) (t : List ℕ) → n + m ≤ 18446744073709551616 → nonce_twice (frame_pieces m dk id size n t) ≡ false
unfolding nonce_twice nonce_among frame_pieces pick
once zero dk id size n t h = refl
once (suc m) dk id size n t h = go (ltb size (length t)) (once m dk id size (suc n) (drop size t) (omega arith))
  where
    rest : List Piece
    rest = frame_pieces m dk id size (suc n) (drop size t)

    first : Piece
    first = frame_piece dk id false n (seal_frame dk id false n (take size t))

    go : (b : Bool) → nonce_twice rest ≡ false → nonce_twice (pick b (first ∷ rest) (frame_piece dk id true n (seal_frame dk id true n t) ∷ [])) ≡ false
    go true i =
        or_from (nonce_among first rest) (nonce_twice rest)
        (first_away dk id n false (seal_frame dk id false n (take size t)) rest (omega arith) (numbered_of m dk id size (suc n) (drop size t) (omega arith))) i
    go false i = refl

pub nonces_differ : NoncesDiffer
unfolding NoncesDiffer nonce_twice
nonces_differ r re tu =
    let g : Good r = good_is r re tu in
    let first : Piece = header_piece (own_key r) (header_of r) (seal_header (own_key r) (header_of r)) in
    let l = g.text_short in
    or_from (nonce_among first (own_frames r)) (nonce_twice (own_frames r))
    (away first (own_frames r) (all_map (Numbered (own_key r) r.id 1) (λ q. repeat 12 0 ≡ q.nonce → ⊥) (own_frames r) (λ q b e. not_zeros (own_key r) r.id 0 q b (sym e)) (own_numbered r g)))
    (once (suc (length r.text)) (own_key r) r.id r.frame_length 1 r.text (omega arith))
