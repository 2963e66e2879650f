-- Facts of what is told over several calls.
use Rattle.std.proofs.Common.{◌≡◌, ℕ, ◌≤◌, ◌∙◌, arith, Option, Some, None, IfSome, subst, sym, inl, inr}
use Rattle.std.proofs.lemmas.Bool.{cases_lt}
use Rattle.fk_host.specs.Disk.{Areas, Told, Above, IfTold, KeepsPast, LeavesAreas, LeavesHost, Passes, Same}

pub if_told_map : (old new : Option Told) (P Q : Told → Told → Type 0) → ((x y : Told) → P x y → Q x y) → IfTold old new P → IfTold old new Q
if_told_map old None P Q f p = tt
if_told_map None (Some y) P Q f p = p
if_told_map (Some x) (Some y) P Q f p = f x y p

-- two calls in a row
pub if_told_then : (a b c : Option Told) (P Q R : Told → Told → Type 0) → ((x y z : Told) → P x y → Q y z → R x z) → IfTold a b P → IfTold b c Q → IfTold a c R
if_told_then a b None P Q R f p q = tt
if_told_then a None (Some z) P Q R f p q = absurd q
if_told_then None (Some y) (Some z) P Q R f p q = p
if_told_then (Some x) (Some y) (Some z) P Q R f p q = f x y z p q

-- a fact of what was told before a call, used after it
pub if_told_with : (a b : Option Told) (H : Told → Type 0) (P Q : Told → Told → Type 0) → ((x y : Told) → H x → P x y → Q x y) → IfSome a H → IfTold a b P → IfTold a b Q
if_told_with a None H P Q f h p = tt
if_told_with None (Some y) H P Q f h p = p
if_told_with (Some x) (Some y) H P Q f h p = f x y h p

-- a fact of what is told after a call
pub if_told_new : (a b : Option Told) (P : Told → Told → Type 0) (H : Told → Type 0) → ((x y : Told) → P x y → H y) → IfTold a b P → IfSome b H
if_told_new a None P H f p = tt
if_told_new None (Some y) P H f p = absurd p
if_told_new (Some x) (Some y) P H f p = f x y p

pub if_told_both : (a b : Option Told) (P Q : Told → Told → Type 0) → IfTold a b P → IfTold a b Q → IfTold a b (λ x y. P x y × Q x y)
if_told_both a None P Q p q = tt
if_told_both None (Some y) P Q p q = p
if_told_both (Some x) (Some y) P Q p q = (p, q)

pub past_then : (m n : ℕ) (a b c : ℕ → Areas → Type 0) → m ≤ n → KeepsPast m a b → KeepsPast n b c → KeepsPast m a c
past_then m n a b c le first second = λ k image within. (λ there. (first k image within).0 ((second k image (omega (arith, le, within))).0 there), λ here. (second k image (omega (arith, le, within))).1 ((first k image within).1 here))

-- a call that leaves the areas
pub leaves_once : (a b : ℕ → Areas → Type 0) (x y : Told) → Passes Same Same a b x y → LeavesAreas a b x y
leaves_once a b x y pass = record {
  later = omega (arith, pass.moments);
  reads = pass.reads;
  past = pass.past;
  each = λ k image after upto left.
      let last : k ≡ y.moments = omega (arith, pass.moments, after, upto) in
      let r = pass.now image (subst (λ (n : ℕ). b n image) last left) in
      subst (a x.moments) (sym r.2) r.1;
}

pub leaves_then : (a b c : ℕ → Areas → Type 0) (x y z : Told) → LeavesAreas a b x y → LeavesAreas b c y z → LeavesAreas a c x z
leaves_then a b c x y z first second = record {
  later = omega (arith, first.later, second.later);
  reads = second.reads ∙ first.reads;
  past = past_then x.moments y.moments a b c first.later first.past second.past;
  each = λ k image after upto left.
      elim (cases_lt y.moments k) [
        | inl behind ↦
            let there : b y.moments image = second.each k image behind upto left in
            elim (cases_lt x.moments y.moments) [
              | inl moved ↦ first.each y.moments image moved (omega arith) there
              | inr still ↦
                  let same : y.moments ≡ x.moments = omega (arith, still, first.later) in
                  (first.past x.moments image (omega arith)).0 (subst (λ (n : ℕ). b n image) same there)
            ]
        | inr before ↦ first.each k image after before ((second.past k image before).0 left)
      ];
}

pub leaves_host_then : {D : Type 0} (told : D → Option Told) (above : D → Above) (a b c : D) → LeavesHost told above a b → LeavesHost told above b c → LeavesHost told above a c
leaves_host_then told above a b c first second = record {
  trace = if_told_then (told a) (told b) (told c) (λ x y. y.trace ≡ x.trace) (λ y z. z.trace ≡ y.trace) (λ x z. z.trace ≡ x.trace) (λ x y z p q. q ∙ p) first.trace second.trace;
  rest = second.rest ∙ first.rest;
}
