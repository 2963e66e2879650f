use Rattle.std.proofs.Common.{◌≡◌, ◌-◌, length, take, ◌∙◌, sym, ap, subst, inl, inr, arith}
use Rattle.fk_cbc.specs.OpenFault.{Deciphers, FirstOpenFault}
use Rattle.fk_cbc.specs.declared.open_fault.OpenFault.TheVariants.{NotSalted, BadLength, BadPadding}
use Rattle.fk_cbc.specs.Padding.{HasPadding}
use Rattle.fk_cbc.specs.Seals.{Seals, salt_in}
use Rattle.fk_cbc.proofs.SealLemmas.{Deciphers-from_reads, Seals-from_parts, no_fault, plaintext-same}
use Rattle.fk_cbc.proofs.salted.open.Goals as goal

pub returns-in_err-salt-clause-right : goal.returns-in_err-salt-clause-right
returns-in_err-salt-clause-right g c = λ salt plain h.
    elim c.in_err-salt.ensures [
      | inl w ↦ absurd (no_fault c.args.key.now salt plain c.args.sealed.now h NotSalted w.1)
      | inr w ↦ absurd (no_fault c.args.key.now salt plain c.args.sealed.now h BadLength (w.1, w.2))
    ]

pub returns-in-None-clause-fault : goal.returns-in-None-clause-fault
returns-in-None-clause-fault g c =
    let m = c.in_ok-salt.ensures in
    let text = c.in_ok-text.text.items in
    let d : Deciphers c.args.key.now c.args.sealed.now text = Deciphers-from_reads c.args.key.now c.args.sealed.now c.in_ok-salt.salt text m.2 c.in_ok-text.ensures.text in
    inr (m.0, m.1, (text, d, λ h. c.in-None.ensures (subst HasPadding (sym c.deref.ensures.value) h)))

pub returns-in-None-clause-right : goal.returns-in-None-clause-right
returns-in-None-clause-right g c = λ salt plain h.
    let m = c.in_ok-salt.ensures in
    let text = c.in_ok-text.text.items in
    let d : Deciphers c.args.key.now c.args.sealed.now text = Deciphers-from_reads c.args.key.now c.args.sealed.now c.in_ok-salt.salt text m.2 c.in_ok-text.ensures.text in
    let w : FirstOpenFault c.args.key.now c.args.sealed.now BadPadding = (m.0, m.1, (text, d, λ p. c.in-None.ensures (subst HasPadding (sym c.deref.ensures.value) p))) in
    absurd (no_fault c.args.key.now salt plain c.args.sealed.now h BadPadding w)

pub returns-in-Some-clause-opened : goal.returns-in-Some-clause-opened
returns-in-Some-clause-opened g c =
    let m = c.in_ok-salt.ensures in
    let n = c.in-Some.ensures in
    let text = c.deref.result.now in
    let d : Deciphers c.args.key.now c.args.sealed.now text =
    subst (λ t. Deciphers c.args.key.now c.args.sealed.now t) (sym {a = c.deref.result.now} c.deref.ensures.value)
    (Deciphers-from_reads c.args.key.now c.args.sealed.now c.in_ok-salt.salt c.in_ok-text.text.items m.2 c.in_ok-text.ensures.text) in
    let plain : take c.in-Some.len text ≡ c.into.result =
    ap (take c.in-Some.len) c.deref.ensures.value ∙ sym {a = c.into.result} (c.into.ensures ∙ c.truncate.ensures.items) in
    subst (λ p. Seals c.args.key.now (salt_in c.args.sealed.now) p c.args.sealed.now) plain
    (Seals-from_parts c.args.key.now c.args.sealed.now text (take c.in-Some.len text) (length text - c.in-Some.len) (λ j. omega (arith, c.type_inv.sealed j)) m.0 m.1 d n.1 n.2 n.0)

pub returns-in-Some-clause-right : goal.returns-in-Some-clause-right
returns-in-Some-clause-right g c = λ salt plain h.
    (plaintext-same c.args.key.now (salt_in c.args.sealed.now) c.into.result salt plain c.args.sealed.now (returns-in-Some-clause-opened g c) h).0

pub returns-in-Some-clause-refused : goal.returns-in-Some-clause-refused
returns-in-Some-clause-refused g c = λ e w.
    absurd (no_fault c.args.key.now (salt_in c.args.sealed.now) c.into.result c.args.sealed.now (returns-in-Some-clause-opened g c) e w)
