-- How the lines of a log add up.
use Rattle.std.proofs.Common.{◌≡◌, ℕ, ◌+◌, Bool, true, false, cond, List, ◌++◌, Option, sym, ap, subst, ◌∙◌, arith}
use Rattle.std.specs.List.{count_by, filter}
use Rattle.std.proofs.lemmas.Grind.{flat_map-append}
use Rattle.std.proofs.lemmas.List.Elements.{filter-append}
use Rattle.std.proofs.lemmas.List.Sums.{sum_by-append}
use Rattle.fk_host.specs.Count.{counted}
use Rattle.fk_host.proofs.Streams.{Gives-append}
use Rattle.fk_log.specs.declared.tally.Tally.{Tally}
use Rattle.fk_log.specs.declared.verbosity.Verbosity.{Verbosity}
use Rattle.fk_log.specs.Line.{Line, line_text, text_of_lines}
use Rattle.fk_log.specs.Tally.{counted_on, tallied, is_begun_open, is_begun_close, is_settled, is_refused}
use Rattle.fk_log.specs.Shown.{shows, shown_text}
use Rattle.fk_log.specs.Writing.{GivesPart, Output, Writes, Logs}
use Rattle.fk_log.proofs.Drafts.{GivesPart-longer, GivesPart-behind}

-- counts go on
counted_on-add : (count a b : ℕ) → counted_on (counted_on count a) b ≡ counted_on count (a + b)
counted_on-add count a b = omega arith

counted_on-append : (p : Line → Bool) (count : ℕ) (xs ys : List Line)
    → counted_on (counted_on count (count_by p xs)) (count_by p ys) ≡ counted_on count (count_by p (xs ++ ys))
counted_on-append p count xs ys = counted_on-add count (count_by p xs) (count_by p ys) ∙ ap (counted_on count) (sym (sum_by-append (λ x. cond (p x) 1 0) xs ys))

pub tallied-append : (tally : Tally) (xs ys : List Line) → tallied (tallied tally xs) ys ≡ tallied tally (xs ++ ys)
tallied-append tally xs ys = rw (
  counted_on-append is_begun_open tally.opens xs ys,
  counted_on-append is_begun_close tally.closes xs ys,
  counted_on-append is_settled tally.settled xs ys,
  counted_on-append is_refused tally.refused xs ys,
)

pub shown_text-append : (verbosity : Verbosity) (xs ys : List Line) → shown_text verbosity (xs ++ ys) ≡ shown_text verbosity xs ++ shown_text verbosity ys
shown_text-append verbosity xs ys =
    ap text_of_lines (filter-append (shows verbosity) xs ys) ∙ flat_map-append line_text (filter (shows verbosity) xs) (filter (shows verbosity) ys)

-- texts that adjoin are written as one
Writes-append : (x y z : Bool) (p q : List ℕ) (a b c : Output) → Writes x y p a b → Writes y z q b c → Writes x z (p ++ q) a c
Writes-append false false false p q a b c one two = (Gives-append p q a.written b.written c.written one.0 two.0, two.1 ∙ one.1)
Writes-append false false true p q a b c one two = (GivesPart-behind p q a.written b.written c.written one.0 two.0, two.1 ∙ ap counted one.1)
Writes-append false true false p q a b c one two = absurd two
Writes-append false true true p q a b c one two =
    (subst (λ (w : Option (List ℕ)). GivesPart (p ++ q) a.written w) (sym two.0) (GivesPart-longer p q a.written b.written one.0), two.1 ∙ one.1)
Writes-append true false z p q a b c one two = absurd one
Writes-append true true false p q a b c one two = absurd two
Writes-append true true true p q a b c one two = (two.0 ∙ one.0, two.1 ∙ one.1)

pub Logs-append : (xs ys : List Line) (a b c : Output) → Logs xs a b → Logs ys b c → Logs (xs ++ ys) a c
Logs-append xs ys a b c one two =
    let same : shown_text b.log.verbosity ys ≡ shown_text a.log.verbosity ys = ap (λ v. shown_text v ys) one.kept in
    let later : Writes b.log.is_broken c.log.is_broken (shown_text a.log.verbosity ys) b c =
    subst (λ (t : List ℕ). Writes b.log.is_broken c.log.is_broken t b c) same two.written in
    let both : Writes a.log.is_broken c.log.is_broken (shown_text a.log.verbosity xs ++ shown_text a.log.verbosity ys) a c =
    Writes-append a.log.is_broken b.log.is_broken c.log.is_broken (shown_text a.log.verbosity xs) (shown_text a.log.verbosity ys) a b c one.written later in record {
      kept = two.kept ∙ one.kept;
      counted = two.counted ∙ ap (λ t. tallied t ys) one.counted ∙ tallied-append a.log.tally xs ys;
      written = subst (λ (t : List ℕ). Writes a.log.is_broken c.log.is_broken t a c) (sym (shown_text-append a.log.verbosity xs ys)) both;
    }
