-- A request that a stanza permits is granted.
use Rattle.std.proofs.Common.{◌≡◌, ℕ, zero, suc, ◌+◌, true, List, [], ◌∷◌, Option, Some, None, Ok, refl, sym, ap, subst, ◌∙◌, inl, inr}
use Rattle.std.specs.Prelude.{slice_get}
use Rattle.std.specs.Option.{ok_or, option_or}
use Rattle.std.proofs.lemmas.Bool.{cases_lt}
use Rattle.fk_base.specs.FirstFailed.{first_failed}
use Rattle.fk_base.specs.declared.grant.Grant.{Grant}
use Rattle.fk_fields.specs.Fields.{asked_ip, asked_pairs}
use Rattle.fk_fields.specs.declared.fields.Fields.{Fields}
use Rattle.fk_packet.specs.Shape.{shape_fault}
use Rattle.fk_packet.proofs.Law.{opened_packed, shape_packed}
use Rattle.fk_access.specs.declared.stanza.Stanza.{Stanza}
use Rattle.fk_admit.specs.Admit.{admitted, admitted_by, first_grant, granted_by, why}
use Rattle.fk_admit.specs.Arrival.{Arrival}
use Rattle.fk_admit.specs.Conditions.{field_tests, is_user_of, is_young, may_open_all, names_address, picked_by}
use Rattle.fk_admit.specs.Private.{ArePicked}
use Rattle.fk_admit.proofs.AllStanzas.{served_by}
use Rattle.fk_admit.proofs.FirstOfAll.{first_of_all}
use Rattle.fk_admit.proofs.KeyTests.{opens_fields}
use Rattle.fk_admit.proofs.OneStanza.{served_fields, served_grant}
use Rattle.fk_client.specs.Sent.{fields_of}
use Rattle.fk_exchange.specs.Granted.{IsLetIn, grant_for}
use Rattle.fk_exchange.specs.Permits.{HasFirst, Permits}
use Rattle.fk_exchange.specs.Request.{Arrives, IsDatagramOf, Request}
use Rattle.fk_exchange.proofs.FirstKeys.{first_is_picked}
use Rattle.fk_exchange.proofs.Conditions.{named, not_over, opens_to_all, required, served, young}

abbrev fields_for : Request → Fields
fields_for request = fields_of request.settings request.moment request.drawn

picked_for : (request : Request) (arrival : Arrival) (stanza : Stanza) → IsDatagramOf request arrival.datagram →
    picked_by stanza arrival ≡ Some request.settings.keys → ArePicked stanza arrival (fields_for request)
picked_for request arrival stanza sent picked_is = record {
  keys = request.settings.keys;
  picked = picked_is;
  opened = opened_packed request.settings.keys (fields_for request) arrival.datagram sent.0;
}

pub first_for : (request : Request) (arrival : Arrival) (stanza : Stanza) → IsDatagramOf request arrival.datagram →
    HasFirst stanza.ring request.settings.keys arrival → ArePicked stanza arrival (fields_for request)
first_for request arrival stanza sent first =
    let opens = opens_fields request.settings.keys arrival.datagram (fields_for request)
    (opened_packed request.settings.keys (fields_for request) arrival.datagram sent.0) in
    picked_for request arrival stanza sent (first_is_picked stanza.ring request.settings.keys arrival opens.fitting first)

fields_pass : (request : Request) (arrival : Arrival) (stanza : Stanza) → Arrives request arrival → Permits stanza request arrival →
    first_failed (field_tests stanza arrival (fields_for request)) ≡ None
fields_pass request arrival stanza arrives permits =
    let age : is_young arrival (fields_for request) ≡ true = young arrival.moment request.moment arrival.age arrives.not_late arrives.not_early in
    let user : is_user_of stanza (fields_for request) ≡ true = required stanza.user request.settings.user permits.user in
    let address : names_address stanza (fields_for request) ≡ true = named stanza.need_source (asked_ip request.settings.ask).0 permits.address in
    let pairs : may_open_all stanza (fields_for request) ≡ true = opens_to_all stanza (asked_pairs request.settings.ask) permits.pairs in
    rw (age, user, address, pairs) refl

pub granted : (request : Request) (arrival : Arrival) (stanza : Stanza) → Arrives request arrival → Permits stanza request arrival → (number : ℕ) →
    granted_by number stanza arrival ≡ Some (grant_for number stanza request arrival.source)
granted request arrival stanza arrives permits number =
    let found = first_for request arrival stanza arrives.sent permits.keys in
    let among = served stanza.sources arrival.source permits.source in
    let open_at = not_over stanza.expire arrival.moment permits.last in
    let passed = served_fields stanza arrival (fields_for request) open_at found ∙ fields_pass request arrival stanza arrives permits in
    served_by number stanza arrival None among passed ∙ served_grant number stanza arrival (fields_for request) found

-- in a file

or_first : (found other : Option Grant) (grant : Grant) → found ≡ Some grant → option_or found other ≡ Some grant
or_first found other grant is = ap (λ (o : Option Grant). option_or o other) is

or_second : (found other : Option Grant) (grant : Grant) → found ≡ None → other ≡ Some grant → option_or found other ≡ Some grant
or_second found other grant none is = ap (λ (o : Option Grant). option_or o other) none ∙ is

abbrev GrantsAnything : Stanza → Arrival → Type 0
GrantsAnything stanza arrival = (number : ℕ) → (grant : Grant) × (granted_by number stanza arrival ≡ Some grant)

one_before : (number : ℕ) (stanza : Stanza) (stanzas : List Stanza) (arrival : Arrival) (this : Option Grant) → granted_by number stanza arrival ≡ this →
    (grant : Grant) × (first_grant (number + 1) stanzas arrival ≡ Some grant) → (grant : Grant) × (first_grant number (stanza ∷ stanzas) arrival ≡ Some grant)
one_before number stanza stanzas arrival (Some found) is rest = (found, or_first (granted_by number stanza arrival) (first_grant (number + 1) stanzas arrival) found is)
one_before number stanza stanzas arrival None is rest =
    (rest.0, or_second (granted_by number stanza arrival) (first_grant (number + 1) stanzas arrival) rest.0 is rest.1)

some_grant : (stanzas : List Stanza) (number place : ℕ) (stanza : Stanza) (arrival : Arrival) → slice_get stanzas place ≡ Some stanza →
    GrantsAnything stanza arrival → (grant : Grant) × (first_grant number stanzas arrival ≡ Some grant)
some_grant [] number place stanza arrival here grants = cc
some_grant (other ∷ stanzas) number zero stanza arrival here grants =
    let same : other ≡ stanza = cc in
    let this = subst (λ (s : Stanza). GrantsAnything s arrival) (sym same) grants number in
    (this.0, or_first (granted_by number other arrival) (first_grant (number + 1) stanzas arrival) this.0 this.1)
some_grant (other ∷ stanzas) number (suc place) stanza arrival here grants =
    one_before number other stanzas arrival (granted_by number other arrival) refl (some_grant stanzas (number + 1) place stanza arrival here grants)

none_is_some : (found : Option Grant) (grant : Grant) → found ≡ Some grant → found ≡ None → ⊥
none_is_some found grant some none = let no : Some grant ≡ None = sym some ∙ none in cc

pub let_in_by : (access : List Stanza) (place : ℕ) (stanza : Stanza) (arrival : Arrival) → shape_fault arrival.datagram ≡ None →
    slice_get access place ≡ Some stanza → GrantsAnything stanza arrival → IsLetIn access place arrival
let_in_by access place stanza arrival shape here grants =
    let some = some_grant access 1 place stanza arrival here grants in
    let is : admitted access arrival ≡ Ok some.0 =
    ap (λ f. admitted_by f access arrival) shape ∙ ap (λ (o : Option Grant). ok_or o (why access arrival)) some.1 in
    let first = (first_of_all access arrival some.0 is).1 in
    record {
      grant = some.0;
      granted = is;
      first = first;
      no_later = elim (cases_lt place first.at) [
        | inl later ↦ absurd (none_is_some (granted_by (place + 1) stanza arrival) (grants (place + 1)).0 (grants (place + 1)).1 (first.first place stanza later here))
        | inr before ↦ before
      ];
    }

pub let_in_first : (request : Request) (arrival : Arrival) (stanza : Stanza) → Arrives request arrival → Permits stanza request arrival →
    (access : List Stanza) (place : ℕ) → slice_get access place ≡ Some stanza → IsLetIn access place arrival
let_in_first request arrival stanza arrives permits access place here =
    let_in_by access place stanza arrival (shape_packed request.settings.keys (fields_for request) arrival.datagram arrives.sent.0) here
    (λ number. (grant_for number stanza request arrival.source, granted request arrival stanza arrives permits number))
