-- The grant of several stanzas is that of the first which grants anything.
use Rattle.std.proofs.Common.{◌≡◌, ℕ, zero, suc, ◌+◌, ◌<◌, List, [], ◌∷◌, Option, Some, None, Ok, refl, ◌∙◌, ap, subst, arith}
use Rattle.std.specs.Prelude.{slice_get}
use Rattle.std.specs.Option.{ok_or, option_or}
use Rattle.fk_base.specs.declared.grant.Grant.{Grant}
use Rattle.fk_access.specs.declared.stanza.Stanza.{Stanza}
use Rattle.fk_packet.specs.declared.packet_shape.PacketShape.{PacketShape}
use Rattle.fk_packet.specs.Shape.{shape_fault}
use Rattle.fk_admit.specs.declared.refusal.Refusal.{Refusal}
use Rattle.fk_admit.specs.Admit.{admitted, admitted_by, first_grant, granted_by, why}
use Rattle.fk_admit.specs.Arrival.{Arrival}
use Rattle.fk_admit.specs.FirstGrant.{IsFirstGrant}

-- the same of stanzas that are numbered from here
record IsFirstFrom (number : ℕ) (stanzas : List Stanza) (arrival : Arrival) (grant : Grant) : Type 0 where
  at : ℕ
  stanza : Stanza
  here : slice_get stanzas at ≡ Some stanza
  grants : granted_by (number + at) stanza arrival ≡ Some grant
  first : (earlier : ℕ) (other : Stanza) → earlier < at → slice_get stanzas earlier ≡ Some other → granted_by (number + earlier) other arrival ≡ None

numbered : (a b : ℕ) (stanza : Stanza) (arrival : Arrival) (found : Option Grant) → a ≡ b → granted_by a stanza arrival ≡ found → granted_by b stanza arrival ≡ found
numbered a b stanza arrival found same is = subst (λ (n : ℕ). granted_by n stanza arrival ≡ found) same is

earlier_none : (number : ℕ) (stanza : Stanza) (stanzas : List Stanza) (arrival : Arrival) (grant : Grant) → granted_by number stanza arrival ≡ None →
    (rest : IsFirstFrom (number + 1) stanzas arrival grant) → (earlier : ℕ) (other : Stanza) → earlier < suc rest.at → slice_get (stanza ∷ stanzas) earlier ≡ Some other →
    granted_by (number + earlier) other arrival ≡ None
earlier_none number stanza stanzas arrival grant none rest zero other lt is =
    let e : stanza ≡ other = cc in
    numbered number (number + 0) other arrival None (omega arith) (subst (λ (s : Stanza). granted_by number s arrival ≡ None) e none)
earlier_none number stanza stanzas arrival grant none rest (suc earlier) other lt is =
    numbered (number + 1 + earlier) (number + suc earlier) other arrival None (omega arith) (rest.first earlier other (omega arith) is)

one_more : (number : ℕ) (stanza : Stanza) (stanzas : List Stanza) (arrival : Arrival) (grant : Grant) (this : Option Grant) →
    granted_by number stanza arrival ≡ this → option_or this (first_grant (number + 1) stanzas arrival) ≡ Some grant →
    (first_grant (number + 1) stanzas arrival ≡ Some grant → IsFirstFrom (number + 1) stanzas arrival grant) → IsFirstFrom number (stanza ∷ stanzas) arrival grant
one_more number stanza stanzas arrival grant (Some found) is all others =
    let e : Some found ≡ Some grant = all in
    record {
      at = 0;
      stanza = stanza;
      here = refl;
      grants = numbered number (number + 0) stanza arrival (Some grant) (omega arith) (is ∙ e);
      first = λ earlier other lt at. absurd (omega arith);
    }
one_more number stanza stanzas arrival grant None is all others =
    let rest = others all in
    record {
      at = suc rest.at;
      stanza = rest.stanza;
      here = rest.here;
      grants = numbered (number + 1 + rest.at) (number + suc rest.at) rest.stanza arrival (Some grant) (omega arith) rest.grants;
      first = earlier_none number stanza stanzas arrival grant is rest;
    }

first_from : (stanzas : List Stanza) (number : ℕ) (arrival : Arrival) (grant : Grant) → first_grant number stanzas arrival ≡ Some grant →
    IsFirstFrom number stanzas arrival grant
first_from [] number arrival grant is = cc
first_from (stanza ∷ stanzas) number arrival grant is =
    one_more number stanza stanzas arrival grant (granted_by number stanza arrival) refl is (λ rest. first_from stanzas (number + 1) arrival grant rest)

taken : (found : Option Grant) (refusal : Refusal) (grant : Grant) → ok_or found refusal ≡ Ok grant → found ≡ Some grant
taken (Some g) refusal grant is = cc
taken None refusal grant is = cc

by_shape : (shape : Option PacketShape) (access : List Stanza) (arrival : Arrival) (grant : Grant) → admitted_by shape access arrival ≡ Ok grant →
    (shape ≡ None) × (first_grant 1 access arrival ≡ Some grant)
by_shape None access arrival grant is = (refl, taken (first_grant 1 access arrival) (why access arrival) grant is)
by_shape (Some fault) access arrival grant is = cc

pub first_of_all : (access : List Stanza) (arrival : Arrival) (grant : Grant) → admitted access arrival ≡ Ok grant →
    (shape_fault arrival.datagram ≡ None) × IsFirstGrant access arrival grant
first_of_all access arrival grant is =
    let shaped = by_shape (shape_fault arrival.datagram) access arrival grant is in
    let found = first_from access 1 arrival grant shaped.1 in (
      shaped.0,
      record {
        at = found.at;
        stanza = found.stanza;
        here = found.here;
        grants = numbered (1 + found.at) (found.at + 1) found.stanza arrival (Some grant) (omega arith) found.grants;
        first = λ earlier other lt at. numbered (1 + earlier) (earlier + 1) other arrival None (omega arith) (found.first earlier other lt at);
      },
    )

-- a grant that no stanza before its own gives is the first

from_first : (at : ℕ) (stanzas : List Stanza) (number : ℕ) (arrival : Arrival) (grant : Grant) (stanza : Stanza) → slice_get stanzas at ≡ Some stanza →
    granted_by (number + at) stanza arrival ≡ Some grant →
    ((earlier : ℕ) (other : Stanza) → earlier < at → slice_get stanzas earlier ≡ Some other → granted_by (number + earlier) other arrival ≡ None) →
    first_grant number stanzas arrival ≡ Some grant
from_first at [] number arrival grant stanza here grants first = cc
from_first zero (this ∷ stanzas) number arrival grant stanza here grants first =
    let same : stanza ≡ this = cc in
    ap (λ (g : Option Grant). option_or g (first_grant (number + 1) stanzas arrival))
    (numbered (number + 0) number this arrival (Some grant) (omega arith)
    (subst (λ (s : Stanza). granted_by (number + 0) s arrival ≡ Some grant) same grants))
from_first (suc at) (this ∷ stanzas) number arrival grant stanza here grants first =
    ap (λ (g : Option Grant). option_or g (first_grant (number + 1) stanzas arrival))
    (numbered (number + 0) number this arrival None (omega arith) (first 0 this (omega arith) refl))
    ∙ from_first at stanzas (number + 1) arrival grant stanza here
    (numbered (number + suc at) (number + 1 + at) stanza arrival (Some grant) (omega arith) grants)
    (λ earlier other lt is. numbered (number + suc earlier) (number + 1 + earlier) other arrival None (omega arith) (first (suc earlier) other (omega arith) is))

pub is_first_of_all : (access : List Stanza) (arrival : Arrival) (grant : Grant) →
    (shape_fault arrival.datagram ≡ None) × IsFirstGrant access arrival grant → admitted access arrival ≡ Ok grant
is_first_of_all access arrival grant is =
    let found = is.1 in
    let first = from_first found.at access 1 arrival grant found.stanza found.here
    (numbered (found.at + 1) (1 + found.at) found.stanza arrival (Some grant) (omega arith) found.grants)
    (λ earlier other lt at. numbered (earlier + 1) (1 + earlier) other arrival None (omega arith) (found.first earlier other lt at)) in
    ap (λ (f : Option PacketShape). admitted_by f access arrival) is.0 ∙ ap (λ (g : Option Grant). ok_or g (why access arrival)) first
