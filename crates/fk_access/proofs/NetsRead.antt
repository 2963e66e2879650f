-- What is known while the nets of a list are read one by one.
use Rattle.std.proofs.Common.{◌≡◌, ℕ, ◌+◌, ◌<◌, ◌≤◌, Bool, true, false, List, [], ◌∷◌, ◌++◌, length, refl, sym, ◌∙◌, ap, subst, arith, append_assoc, length-append}
use Rattle.std.specs.Prelude.{◌&&◌}
use Rattle.std.specs.List.{AllZip, list_all}
use Rattle.std.proofs.lemmas.Bool.{and_from, and_parts, false_from_ne_true}
use Rattle.std.proofs.lemmas.List.{append-nil}
use Rattle.std.proofs.lemmas.List.Folds.{list_all-append}
use Rattle.fk_base.specs.Net.{SpellsNet}
use Rattle.fk_base.specs.declared.net.Net4.{Net4}
use Rattle.fk_values.specs.Values.{has_items_within, is_net_text}
use Rattle.fk_values.proofs.PairsRead.{few_items, too_many_items}
use Rattle.fk_access.specs.AccessValues.{are_nets}

pub record IsNetsReading (items left : List (List ℕ)) (nets : List Net4) : Type 0 where
  pub done : List (List ℕ)
  pub split : items ≡ done ++ left
  pub some : 1 ≤ length nets
  pub count : length items ≡ length nets + length left
  pub right : list_all is_net_text done ≡ true
  pub each : AllZip SpellsNet done nets

AllZip-push : (items : List (List ℕ)) (nets : List Net4) (item : List ℕ) (net : Net4) → AllZip SpellsNet items nets → SpellsNet item net →
    AllZip SpellsNet (items ++ item ∷ []) (nets ++ net ∷ [])
AllZip-push [] [] item net each is = (is, tt)
AllZip-push [] (n ∷ nets) item net each is = absurd each
AllZip-push (i ∷ items) [] item net each is = absurd each
AllZip-push (i ∷ items) (n ∷ nets) item net each is = (each.0, AllZip-push items nets item net each.1 is)

pub nets_begin : (items rest : List (List ℕ)) (item : List ℕ) (net : Net4) (nets : List Net4) → items ≡ item ∷ rest → is_net_text item ≡ true →
    SpellsNet item net → nets ≡ net ∷ [] → IsNetsReading items rest nets
nets_begin items rest item net nets is right spelled one =
    let size = ap length is in
    let ones = ap length one in
    record {
      done = item ∷ [];
      split = is;
      some = omega arith;
      count = omega arith;
      right = and_from (is_net_text item) true right refl;
      each = subst (λ (n : List Net4). AllZip SpellsNet (item ∷ []) n) (sym one) (spelled, tt);
    }

pub nets_go_on : (items left rest : List (List ℕ)) (item : List ℕ) (net : Net4) (nets next : List Net4) → left ≡ item ∷ rest → is_net_text item ≡ true →
    SpellsNet item net → next ≡ nets ++ net ∷ [] → IsNetsReading items left nets → IsNetsReading items rest next
nets_go_on items left rest item net nets next is right spelled next_is before =
    let size = ap length is in
    let grown : length next ≡ length nets + 1 = ap length next_is ∙ length-append nets (net ∷ []) in
    let some = before.some in
    let count = before.count in
    record {
      done = before.done ++ item ∷ [];
      split = before.split ∙ ap (λ (l : List (List ℕ)). before.done ++ l) is ∙ sym (append_assoc before.done (item ∷ []) rest);
      some = omega arith;
      count = omega arith;
      right = list_all-append is_net_text before.done (item ∷ [])
          ∙ and_from (list_all is_net_text before.done) (list_all is_net_text (item ∷ [])) before.right (and_from (is_net_text item) true right refl);
      each = subst (λ (n : List Net4). AllZip SpellsNet (before.done ++ item ∷ []) n) (sym next_is) (AllZip-push before.done nets item net before.each spelled);
    }

wrong_item : (done rest : List (List ℕ)) (item : List ℕ) → is_net_text item ≡ false → list_all is_net_text (done ++ item ∷ rest) ≡ false
wrong_item done rest item wrong =
    false_from_ne_true (list_all is_net_text (done ++ item ∷ rest)) (λ is. absurd (
    let both = and_parts (list_all is_net_text done) (list_all is_net_text (item ∷ rest)) (sym (list_all-append is_net_text done (item ∷ rest)) ∙ is) in
    let this = (and_parts (is_net_text item) (list_all is_net_text rest) both.1).0 in
    cc))

no_nets : (items : List (List ℕ)) → list_all is_net_text items ≡ false → are_nets items ≡ false
no_nets items wrong =
    false_from_ne_true (are_nets items) (λ is. absurd (let all = (and_parts (has_items_within 16 items) (list_all is_net_text items) is).1 in cc))

pub nets_wrong : (items left rest : List (List ℕ)) (item : List ℕ) (nets : List Net4) → left ≡ item ∷ rest → is_net_text item ≡ false →
    IsNetsReading items left nets → are_nets items ≡ false
nets_wrong items left rest item nets is wrong before =
    no_nets items (ap (list_all is_net_text) (before.split ∙ ap (λ (l : List (List ℕ)). before.done ++ l) is) ∙ wrong_item before.done rest item wrong)

pub nets_none : (items : List (List ℕ)) → items ≡ [] → are_nets items ≡ false
nets_none items none = ap are_nets none

pub nets_first_wrong : (items rest : List (List ℕ)) (item : List ℕ) → items ≡ item ∷ rest → is_net_text item ≡ false → are_nets items ≡ false
nets_first_wrong items rest item is wrong = no_nets items (ap (list_all is_net_text) is ∙ wrong_item [] rest item wrong)

pub nets_full : (items left rest : List (List ℕ)) (item : List ℕ) (nets : List Net4) → left ≡ item ∷ rest → length nets ≡ 16 →
    IsNetsReading items left nets → are_nets items ≡ false
nets_full items left rest item nets is full before =
    let size = ap length is in
    let count = before.count in
    let many : 16 < length items = omega arith in
    ap (λ (b : Bool). b && list_all is_net_text items) (too_many_items 16 items many)

pub nets_end : (items left : List (List ℕ)) (nets : List Net4) → left ≡ [] → length nets ≤ 16 → IsNetsReading items left nets →
    (are_nets items ≡ true) × AllZip SpellsNet items nets
nets_end items left nets is few before =
    let size = ap length is in
    let count = before.count in
    let some = before.some in
    let all : items ≡ before.done = before.split ∙ ap (λ (l : List (List ℕ)). before.done ++ l) is ∙ append-nil before.done in (
      and_from (has_items_within 16 items) (list_all is_net_text items) (few_items 16 items (omega arith) (omega arith)) (ap (list_all is_net_text) all ∙ before.right),
      subst (λ (i : List (List ℕ)). AllZip SpellsNet i nets) (sym all) before.each,
    )
