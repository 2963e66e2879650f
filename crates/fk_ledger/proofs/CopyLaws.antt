-- What the calls of a copy leave, one after another.
use Rattle.std.proofs.Common.{◌≡◌, ℕ, ◌+◌, ◌<◌, true, List, [], ◌∷◌, ◌++◌, length, take, refl, sym, ap, subst, ◌∙◌, append_assoc, append-nil, arith, inl, inr, Option, Some, None, Ok, Err}
use Rattle.std.specs.Prelude.{Result, OnOk, OnErr}
use Rattle.std.specs.List.{filter_map, cons_option}
use Rattle.std.specs.Option.{option_map, option_to_list}
use Rattle.std.proofs.lemmas.Bool.{cases_lt}
use Rattle.std.proofs.lemmas.List.{length-append, map-append, take_more}
use Rattle.std.proofs.lemmas.List.Elements.{filter_map-append}
use Rattle.std.proofs.Common.{get_or}
use Rattle.fk_base.specs.declared.memory.Failed.{Failed}
use Rattle.fk_host.specs.declared.disk.Area.{Area}
use Rattle.fk_host.specs.Disk.{Areas, Told, IfTold}
use Rattle.fk_trace.specs.declared.change.Change.{Change}
use Rattle.fk_journal.specs.Entries.{Content}
use Rattle.fk_journal.specs.Keeps.{Log, Keeps, Copies, HoldsIn, CopyMoments}
use Rattle.fk_journal.proofs.Told.{past_then, if_told_map, if_told_then}
use Rattle.fk_ledger.specs.Payloads.{content_of, ledger_contents}
use Rattle.fk_ledger.specs.Anew.{kept_as, HoldsAll, CopiesOn, FailsOn}

pub holds_then : (Held : Areas → Type 0) (p q r : ℕ → Areas → Type 0) (x y z : Told) → HoldsAll Held p q x y → HoldsAll Held q r y z → HoldsAll Held p r x z
holds_then Held p q r x y z first second = record {
  later = omega (arith, first.later, second.later);
  past = past_then x.moments y.moments p q r first.later first.past second.past;
  each = λ k image behind upto left.
      elim (cases_lt y.moments k) [
        | inl later ↦ second.each k image later upto left
        | inr before ↦ first.each k image behind before ((second.past k image before).0 left)
      ];
}

-- what is said of each image follows from something else that is said of it
pub holds_more : (Held More : Areas → Type 0) (p q : ℕ → Areas → Type 0) (x y : Told) → ((image : Areas) → Held image → More image) → HoldsAll Held p q x y → HoldsAll More p q x y
holds_more Held More p q x y more holds = record {
  later = holds.later;
  past = holds.past;
  each = λ k image behind upto left. more image (holds.each k image behind upto left);
}

pub moments_hold : (n : ℕ) (Held : Areas → Type 0) (p q : ℕ → Areas → Type 0) (s t : Option Told) → IfTold s t (CopyMoments n Held p q) → IfTold s t (HoldsAll Held p q)
moments_hold n Held p q s t moments =
    if_told_map s t (CopyMoments n Held p q) (HoldsAll Held p q) (λ x y m. record { later = m.later; past = m.past; each = m.each }) moments

none_holds : (Held : Areas → Type 0) (p : ℕ → Areas → Type 0) (s : Option Told) → IfTold s s (HoldsAll Held p p)
none_holds Held p None = tt
none_holds Held p (Some x) = record {
  later = omega arith;
  past = λ k image within. (λ here. here, λ here. here);
  each = λ k image behind upto left. absurd (omega (arith, behind, upto));
}

none_called : (s : Option Told) → IfTold s s (λ before after. after.moments ≡ before.moments + 0)
none_called None = tt
none_called (Some x) = omega arith

-- nothing was copied
pub copies_none : (log : Log) (s : Option Told) (p : ℕ → Areas → Type 0) → CopiesOn log log [] s s p p
copies_none log s p = record {
  same = refl;
  keeps = λ contents keeps. keeps;
  moments = λ contents keeps. none_holds (HoldsIn log.area contents) p s;
  copies = λ front copies. subst (λ (all : List Content). Copies log all s) (sym (append-nil front)) copies;
  calls = none_called s;
}

module _ (a b c : Log) (s t u : Option Told) (p q r : ℕ → Areas → Type 0) (xs : List Content) (first : CopiesOn a b xs s t p q) where
  area_same : b.area ≡ a.area
  area_same = ap (λ (l : Log). l.area) first.same

  -- copies one after another
  pub copies_then : (ys : List Content) → CopiesOn b c ys t u q r → CopiesOn a c (xs ++ ys) s u p r
  copies_then ys second = record {
    same = second.same ∙ ap (λ (l : Log). record l { copied_end = c.copied_end }) first.same;
    keeps = λ contents keeps. second.keeps contents (first.keeps contents keeps);
    moments = λ contents keeps.
        if_told_then s t u (HoldsAll (HoldsIn a.area contents) p q) (HoldsAll (HoldsIn a.area contents) q r) (HoldsAll (HoldsIn a.area contents) p r)
        (λ x y z one two. holds_then (HoldsIn a.area contents) p q r x y z one two) (first.moments contents keeps)
        (subst (λ (area : Area). IfTold t u (HoldsAll (HoldsIn area contents) q r)) area_same (second.moments contents (first.keeps contents keeps)));
    copies = λ front copies. subst (λ (all : List Content). Copies c all u) (append_assoc front xs ys) (second.copies (front ++ xs) (first.copies front copies));
    calls =
        if_told_then s t u (λ before after. after.moments ≡ before.moments + length xs) (λ before after. after.moments ≡ before.moments + length ys) (λ before after. after.moments ≡ before.moments + length (xs ++ ys))
        (λ x y z one two. let both = length-append xs ys in omega (arith, one, two, both)) first.calls second.calls;
  }

  -- a copy that fails behind others
  pub fails_then : FailsOn b c t u q r → FailsOn a c s u p r
  fails_then second = record {
    same = second.same ∙ ap (λ (l : Log). record l { is_copying = c.is_copying; copied_end = c.copied_end; is_spent = true }) first.same;
    moments = λ contents keeps.
        if_told_then s t u (HoldsAll (HoldsIn a.area contents) p q) (HoldsAll (HoldsIn a.area contents) q r) (HoldsAll (HoldsIn a.area contents) p r)
        (λ x y z one two. holds_then (HoldsIn a.area contents) p q r x y z one two) (first.moments contents keeps)
        (subst (λ (area : Area). IfTold t u (HoldsAll (HoldsIn area contents) q r)) area_same (second.moments contents (first.keeps contents keeps)));
  }

-- one call that copies an entry
pub one_copied : (a b : Log) (content : Content) (n : ℕ) (s t : Option Told) (p q : ℕ → Areas → Type 0) → b ≡ record a { copied_end = n }
    → ((contents : List Content) → Keeps a contents s p → Keeps b contents t q) → ((contents : List Content) → Keeps a contents s p → IfTold s t (CopyMoments 1 (HoldsIn a.area contents) p q))
    → ((front : List Content) → Copies a front s → Copies b (front ++ content ∷ []) t) → IfTold s t (λ before after. after.moments ≡ before.moments + 1)
    → CopiesOn a b (content ∷ []) s t p q
one_copied a b content n s t p q is keeps moments copies calls = record {
  same = is ∙ ap (λ (m : ℕ). record a { copied_end = m }) (sym (ap (λ (l : Log). l.copied_end) is));
  keeps = keeps;
  moments = λ contents k. moments_hold 1 (HoldsIn a.area contents) p q s t (moments contents k);
  copies = copies;
  calls = calls;
}

pub ok_copied : (result : Result (Unit {0}) Failed) (a b : Log) (content : Content) (n : ℕ) (s t : Option Told) (p q : ℕ → Areas → Type 0) → OnOk result (b ≡ record a { copied_end = n })
    → ((contents : List Content) → Keeps a contents s p → OnOk result (Keeps b contents t q)) → ((contents : List Content) → Keeps a contents s p → IfTold s t (CopyMoments 1 (HoldsIn a.area contents) p q))
    → ((front : List Content) → Copies a front s → OnOk result (Copies b (front ++ content ∷ []) t)) → OnOk result (IfTold s t (λ before after. after.moments ≡ before.moments + 1))
    → OnOk result (CopiesOn a b (content ∷ []) s t p q)
ok_copied (Ok done) a b content n s t p q is keeps moments copies calls = one_copied a b content n s t p q is keeps moments copies calls
ok_copied (Err fault) a b content n s t p q is keeps moments copies calls = tt

pub err_copied : (result : Result (Unit {0}) Failed) (a b : Log) (s t : Option Told) (p q : ℕ → Areas → Type 0) → OnErr result (b ≡ record a { is_spent = true })
    → ((contents : List Content) → Keeps a contents s p → IfTold s t (CopyMoments 1 (HoldsIn a.area contents) p q)) → OnErr result (FailsOn a b s t p q)
err_copied (Ok done) a b s t p q is moments = tt
err_copied (Err fault) a b s t p q is moments = record {
  same = is ∙ ap (λ (l : Log). record a { is_copying = l.is_copying; copied_end = l.copied_end; is_spent = true }) (sym is);
  moments = λ contents k. moments_hold 1 (HoldsIn a.area contents) p q s t (moments contents k);
}

-- ---- which entries are copied

contents_option : (o : Option Change) → ledger_contents (option_to_list o) ≡ option_to_list (option_map content_of o)
contents_option None = refl
contents_option (Some change) = refl

pub contents_one : (o : Option Change) (content : Content) → Some content ≡ option_map content_of o → content ∷ [] ≡ ledger_contents (option_to_list o)
contents_one o content is = ap option_to_list is ∙ sym (contents_option o)

pub contents_none : (o : Option Change) → None ≡ option_map content_of o → [] ≡ ledger_contents (option_to_list o)
contents_none o is = ap option_to_list is ∙ sym (contents_option o)

one_kept : (o : Option Change) → cons_option o [] ≡ option_to_list o
one_kept None = refl
one_kept (Some change) = refl

-- what stays of the changes up to a place and of the one there is what stays of those up to the next
pub contents_step : (floor : ℕ) (ids : List ℕ) (changes : List Change) (i : ℕ) (change : Change) → i < length changes → change ≡ get_or changes i change
    → ledger_contents (filter_map (kept_as floor ids) (take i changes)) ++ ledger_contents (option_to_list (kept_as floor ids change)) ≡ ledger_contents (filter_map (kept_as floor ids) (take (i + 1) changes))
contents_step floor ids changes i change within at =
    let f : Change → Option Change = kept_as floor ids in
    let step : take (i + 1) changes ≡ take i changes ++ change ∷ [] = take_more changes i change within ∙ ap (λ (x : Change). take i changes ++ x ∷ []) (sym at) in
    let parts : filter_map f (take (i + 1) changes) ≡ filter_map f (take i changes) ++ option_to_list (f change) =
    ap (filter_map f) step ∙ filter_map-append f (take i changes) (change ∷ []) ∙ ap (λ (xs : List Change). filter_map f (take i changes) ++ xs) (one_kept (f change)) in
    sym (ap ledger_contents parts ∙ map-append content_of (filter_map f (take i changes)) (option_to_list (f change)))
