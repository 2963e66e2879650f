use Rattle.std.proofs.Common.{◌≡◌, ◌+◌, ◌<◌, ◌++◌, ◌∷◌, List, ℕ, length, get_or, take, ap, sym, ◌∙◌, arith, append_assoc, length-append}
use Rattle.std.specs.List.{flat_map}
use Rattle.std.proofs.lemmas.List.Folds.{length-flat_map-take}
use Rattle.fk_ledger.specs.Payloads.{word_bytes}
use Rattle.fk_ledger.proofs.WordLists.{read_within, short_word, flat_map-next, length-word_bytes}
use Rattle.fk_ledger.proofs.writing.push_words.Goals as goal

pub push_word-requires-clause-size : goal.push_word-requires-clause-size
push_word-requires-clause-size c =
    let within : c.loop-at.at < length c.args.words.now = omega arith in
    short_word c.args.words.now c.loop-at.at c.get.result.now c.requires.words within (read_within c.args.words.now c.loop-at.at c.get.result.now c.get.ensures within)

pub push_word-requires-clause-room : goal.push_word-requires-clause-room
push_word-requires-clause-room c =
    let word : List ℕ = c.get.result.now in
    let words : List (List ℕ) = c.args.words.now in
    let within : c.loop-at.at < length words = omega arith in
    let at : word ≡ get_or words c.loop-at.at word = read_within words c.loop-at.at word c.get.ensures within in
    let size : length (word_bytes (get_or words c.loop-at.at word)) ≡ 2 + length word = length-word_bytes (get_or words c.loop-at.at word) ∙ ap (λ (w : List ℕ). 2 + length w) (sym at) in
    let front = length-flat_map-take word_bytes words c.loop-at.at word within in
    let len : length c.loop-at.buffer.items ≡ length c.args.buffer.now.items + (1 + length (flat_map word_bytes (take c.loop-at.at words))) = ap length c.loop-at.invariant.0 ∙ length-append c.args.buffer.now.items (length words ∷ flat_map word_bytes (take c.loop-at.at words)) ∙ omega arith in
    let room = c.requires.room in
    omega arith

pub loop-at-preserved : goal.loop-at-preserved
loop-at-preserved c =
    let word : List ℕ = c.get.result.now in
    let words : List (List ℕ) = c.args.words.now in
    let within : c.loop-at.at < length words = omega arith in
    let at : word ≡ get_or words c.loop-at.at word = read_within words c.loop-at.at word c.get.ensures within in
    let first : List ℕ = length words ∷ flat_map word_bytes (take c.loop-at.at words) in (
      c.push_word.ensures.items ∙ ap (λ x. x ++ word_bytes word) c.loop-at.invariant.0 ∙ append_assoc c.args.buffer.now.items first (word_bytes word)
          ∙ ap (λ more. c.args.buffer.now.items ++ length words ∷ more) (sym (flat_map-next words c.loop-at.at word within at)),
      c.push_word.ensures.capacity ∙ c.loop-at.invariant.1,
    )
