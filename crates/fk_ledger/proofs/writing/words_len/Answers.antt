use Rattle.std.proofs.Common.{◌≡◌, ◌+◌, ◌<◌, List, ℕ, length, get_or, take, ap, sym, ◌∙◌, arith, length-append}
use Rattle.std.specs.List.{flat_map}
use Rattle.std.proofs.lemmas.List.{take_all}
use Rattle.fk_ledger.specs.Payloads.{word_bytes}
use Rattle.fk_ledger.proofs.WordLists.{read_within, short_so_far, short_words, flat_map-next, length-word_bytes}
use Rattle.fk_ledger.proofs.writing.words_len.Goals as goal

pub overflow_add-len-in-loop-at : goal.overflow_add-len-in-loop-at
overflow_add-len-in-loop-at c =
    let word : List ℕ = c.get.result.now in
    let within : c.loop-at.at < length c.args.words.now = omega arith in
    let at : word ≡ get_or c.args.words.now c.loop-at.at word = read_within c.args.words.now c.loop-at.at word c.get.ensures within in
    let so_far = short_so_far c.args.words.now c.loop-at.at word c.requires within in
    let size : length (word_bytes (get_or c.args.words.now c.loop-at.at word)) ≡ 2 + length word = length-word_bytes (get_or c.args.words.now c.loop-at.at word) ∙ ap (λ (w : List ℕ). 2 + length w) (sym at) in
    let len : c.loop-at.len ≡ length (flat_map word_bytes (take c.loop-at.at c.args.words.now)) = c.loop-at.invariant in
    omega arith

pub loop-at-preserved : goal.loop-at-preserved
loop-at-preserved c =
    let word : List ℕ = c.get.result.now in
    let within : c.loop-at.at < length c.args.words.now = omega arith in
    let at : word ≡ get_or c.args.words.now c.loop-at.at word = read_within c.args.words.now c.loop-at.at word c.get.ensures within in
    let next = ap length (flat_map-next c.args.words.now c.loop-at.at word within at) ∙ length-append (flat_map word_bytes (take c.loop-at.at c.args.words.now)) (word_bytes word) in
    ap (λ n. n + (2 + length word)) c.loop-at.invariant ∙ ap (λ n. length (flat_map word_bytes (take c.loop-at.at c.args.words.now)) + n) (sym (length-word_bytes word)) ∙ sym next

pub returns-clause-bound : goal.returns-clause-bound
returns-clause-bound c =
    let all : take c.loop-at.at c.args.words.now ≡ c.args.words.now = take_all c.loop-at.at c.args.words.now (omega arith) in
    let len : c.loop-at.len ≡ length (flat_map word_bytes c.args.words.now) = c.loop-at.invariant ∙ ap (λ ws. length (flat_map word_bytes ws)) all in
    let short = short_words c.args.words.now c.requires in
    omega arith
