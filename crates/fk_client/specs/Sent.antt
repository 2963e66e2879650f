-- The datagram of a packet, from its settings, the moment and 24 random bytes.
use Rattle.std.specs.Prelude.{◌≡◌, ℕ, ◌+◌, ◌%◌, List, codes, drop, map, take}
use Rattle.fk_fields.specs.declared.fields.Fields.{Fields}
use Rattle.fk_packet.specs.Packs.{Packs}
use Rattle.fk_client.specs.declared.settled.Settings.{Settings}

-- The fields: the random value is the first 16 bytes, each modulo 10 as a digit (48 is `0`), the stamp is the moment, and the rest
-- is the settings'.
abbrev pub fields_of : Settings → ℕ → List ℕ → Fields
fields_of settings moment drawn = record {
  rand = map (λ byte. 48 + byte % 10) (take 16 drawn);
  user = settings.user;
  stamp = moment;
  version = codes "3.0.0";
  ask = settings.ask;
  kind = settings.kind;
}

-- the datagram packs these fields under the settings' keys, with the bytes behind the first 16 as its salt
abbrev pub IsSent : Settings → ℕ → List ℕ → List ℕ → Type 0
IsSent settings moment drawn datagram =
    (packs : Packs settings.keys (fields_of settings moment drawn) datagram) × (packs.salt ≡ drop 16 drawn)
