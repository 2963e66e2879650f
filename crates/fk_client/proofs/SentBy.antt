-- A datagram is that of its settings where its fields are.
use Rattle.std.proofs.Common.{◌≡◌, ℕ, ◌+◌, ◌%◌, List, drop, map, take, ◌∙◌, subst}
use Rattle.std.specs.Prelude.{codes}
use Rattle.fk_fields.specs.declared.fields.Fields.{Fields}
use Rattle.fk_packet.specs.Packs.{Packs}
use Rattle.fk_client.specs.declared.settled.Settings.{Settings}
use Rattle.fk_client.specs.Sent.{IsSent, fields_of}

abbrev pub made : Settings → List ℕ → ℕ → List ℕ → Fields
made settings rand stamp version =
    record { rand = rand; user = settings.user; stamp = stamp; version = version; ask = settings.ask; kind = settings.kind }

pub sent_by : (settings : Settings) (moment : ℕ) (drawn datagram rand version salt : List ℕ) (stamp : ℕ) →
    rand ≡ map (λ byte. 48 + byte % 10) (take 16 drawn) → version ≡ codes "3.0.0" → stamp ≡ moment → salt ≡ drop 16 drawn →
    ((packs : Packs settings.keys (made settings rand stamp version) datagram) × (packs.salt ≡ salt)) → IsSent settings moment drawn datagram
sent_by settings moment drawn datagram rand version salt stamp rand_is version_is stamp_is salt_is packed =
    let same : made settings rand stamp version ≡ fields_of settings moment drawn =
    λ i. record { rand = rand_is i; user = settings.user; stamp = stamp_is i; version = version_is i; ask = settings.ask; kind = settings.kind } in
    subst (λ (fields : Fields). (packs : Packs settings.keys fields datagram) × (packs.salt ≡ drop 16 drawn)) same (packed.0, packed.1 ∙ salt_is)
