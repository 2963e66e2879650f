use Rattle.std.proofs.Common.{◌≡◌, ◌+◌, ◌<◌, ◌≤◌, ℕ, List, length, get_or, take, false, true, sym, ◌∙◌, subst, arith}
use Rattle.std.specs.List.{concat}
use Rattle.fk_ledger.specs.Private.{IsCommandWord}
use Rattle.fk_ledger.proofs.WordLists.{read_within, too_long, good_word, length-concat-more, All-next}
use Rattle.fk_ledger.proofs.reading.are_command_words.Goals as goal

pub returns-then-word-room : goal.returns-then-word-room
returns-then-word-room c =
    let word : List ℕ = c.get-word.result.now in
    let within : c.loop-at.at < length c.args.words.now = omega arith in
    let at : word ≡ get_or c.args.words.now c.loop-at.at word = read_within c.args.words.now c.loop-at.at word c.get-word.ensures within in
    (λ no. absurd (let n : false ≡ true = no in cc), λ are. absurd (too_long c.args.words.now c.loop-at.at word c.loop-at.room within at c.loop-at.invariant.0 c.if-word-room.true are))

pub returns-then-not-is_command_word : goal.returns-then-not-is_command_word
returns-then-not-is_command_word c =
    let word : List ℕ = c.get-word.result.now in
    let within : c.loop-at.at < length c.args.words.now = omega arith in
    let at : word ≡ get_or c.args.words.now c.loop-at.at word = read_within c.args.words.now c.loop-at.at word c.get-word.ensures within in
    (λ no. absurd (let n : false ≡ true = no in cc), λ are. sym c.if-not-is_command_word.true ∙ c.is_command_word.ensures.1 (subst IsCommandWord (sym at) (good_word c.args.words.now are c.loop-at.at within word)))

pub loop-at-preserved : goal.loop-at-preserved
loop-at-preserved c =
    let word : List ℕ = c.get-word.result.now in
    let words : List (List ℕ) = c.args.words.now in
    let within : c.loop-at.at < length words = omega arith in
    let at : word ≡ get_or words c.loop-at.at word = read_within words c.loop-at.at word c.get-word.ensures within in
    let more = length-concat-more words c.loop-at.at word within at in
    let left : c.loop-at.room + length (concat (take c.loop-at.at words)) ≡ 12000 = c.loop-at.invariant.0 in
    let fits : length word ≤ c.loop-at.room = c.if-word-room.false in
    (omega arith, All-next words c.loop-at.at word within at c.loop-at.invariant.1 (c.is_command_word.ensures.0 c.if-not-is_command_word.false))
