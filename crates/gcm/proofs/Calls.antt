-- What opening answers, from the tag that was computed.
use Rattle.std.proofs.Common.{◌≡◌, ℕ, true, false, List, [], ◌∷◌, length, sym, refl, ap, ◌∙◌}
use Rattle.octets.specs.Bytes.{bytes_eq}
use Rattle.octets.proofs.Bits.{pick_true, pick_false}
use Rattle.aes256.specs.Aes.{round_keys}
use Rattle.gcm.specs.Gcm.{tag_of, ctr}
use Rattle.gcm.specs.Calls.{Opens}

pub other_tag : (key nonce aad cipher tag old own : List ℕ) → own ≡ tag_of (round_keys key) nonce aad cipher → false ≡ bytes_eq own tag
    → Opens key nonce aad cipher tag old false old
other_tag key nonce aad cipher tag old own e f =
    let t : List ℕ = tag_of (round_keys key) nonce aad cipher in
    record {
      text = λ l. pick_false false (old ∷ []) [] refl ∙ sym (pick_false (bytes_eq t tag) (ctr (round_keys key) nonce cipher ∷ []) [] (ap (λ xs. bytes_eq xs tag) (sym e) ∙ sym f));
      lacks = λ n. refl;
      holds = λ h. refl;
    }

pub right_tag : (key nonce aad cipher tag old own out : List ℕ) → length old ≡ length cipher → own ≡ tag_of (round_keys key) nonce aad cipher → true ≡ bytes_eq own tag
    → out ≡ ctr (round_keys key) nonce cipher → Opens key nonce aad cipher tag old true out
right_tag key nonce aad cipher tag old own out l e f g =
    let t : List ℕ = tag_of (round_keys key) nonce aad cipher in
    record {
      text =
          λ h.
          pick_true true (out ∷ []) [] refl
          ∙ (ap (λ xs. xs ∷ []) g ∙ sym (pick_true (bytes_eq t tag) (ctr (round_keys key) nonce cipher ∷ []) [] (ap (λ xs. bytes_eq xs tag) (sym e) ∙ sym f)));
      lacks = λ n. absurd (n l);
      holds = λ h. cc;
    }
