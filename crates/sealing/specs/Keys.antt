-- The keys of one message. These are definitions: they assume nothing.
use Rattle.std.specs.Prelude.{◌≡◌, ℕ, List}
use Rattle.hkdf.specs.MessageKeys as MessageKeys
use Rattle.gcm.specs.Key.{key_of}
use Rattle.sealing.specs.declared.keys.Keys.{Keys}

-- prepared from a data key and a message id
pub record KeysFor (data_key message_id : List ℕ) (k : Keys) : Type 0 where
  pub sealing_key : key_of k.cipher.key ≡ MessageKeys.sealing_key data_key message_id
  pub id : k.cipher.id ≡ message_id
  pub commitment : k.commitment ≡ MessageKeys.commitment data_key message_id
