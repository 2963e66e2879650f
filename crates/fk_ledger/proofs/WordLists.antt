-- The words of a command, one by one.
use Rattle.std.proofs.Common.{◌≡◌, ◌≢◌, ℕ, ◌+◌, ◌*◌, ◌<◌, ◌≤◌, List, [], ◌∷◌, ◌++◌, length, take, get_or, refl, ap, sym, ◌∙◌, arith, subst, length-append, append_assoc, Some}
use Rattle.std.specs.Prelude.{slice_get}
use Rattle.std.proofs.lemmas.Option.{get_or_from_slice_get}
use Rattle.std.specs.Int.{w16, w32, w64, to_be_bytes}
use Rattle.std.specs.List.{concat, flat_map, All, AllPass}
use Rattle.std.proofs.lemmas.List.{take_more, append-nil}
use Rattle.std.proofs.lemmas.List.Elements.{All-weaker, All-push}
use Rattle.std.proofs.lemmas.List.Folds.{concat-append, length-flat_map-take}
use Rattle.std.proofs.lemmas.Grind.{flat_map-append}
use Rattle.fk_base.specs.Characters.{is_word_byte}
use Rattle.fk_base.specs.CommandWords.{AreCommandWords}
use Rattle.fk_trace.specs.declared.change.OpenRecord.{OpenRecord}
use Rattle.fk_ledger.specs.Payloads.{proto_number, word_bytes, words_bytes, record_bytes}
use Rattle.fk_ledger.specs.Private.{IsCommandWord}

pub good_words : (words : List (List ℕ)) → 1 ≤ length words → length words ≤ 32 → All IsCommandWord words → length (concat words) ≤ 12000 → AreCommandWords words
good_words words some few each short = record {
  some = some;
  few = few;
  filled = All-weaker IsCommandWord (λ word. word ≢ []) (λ word w. w.filled) words each;
  short = short;
  bytes = All-weaker IsCommandWord (AllPass is_word_byte) (λ word w. w.bytes) words each;
}

pub good_word : (words : List (List ℕ)) → AreCommandWords words → (i : ℕ) → i < length words → (d : List ℕ) → IsCommandWord (get_or words i d)
good_word words are i within d = record { filled = are.filled i d within; bytes = are.bytes i d within }

as_flat : (words : List (List ℕ)) → concat words ≡ flat_map (λ word. word) words
as_flat [] = refl
as_flat (word ∷ words) = ap (λ more. word ++ more) (as_flat words)

-- the words so far and the next are no longer than all of them
pub length-concat-take : (words : List (List ℕ)) (i : ℕ) (d : List ℕ) → i < length words → length (concat (take i words)) + length (get_or words i d) ≤ length (concat words)
length-concat-take words i d within =
    let sizes = length-flat_map-take (λ (word : List ℕ). word) words i d within in
    let front = ap length (as_flat (take i words)) in
    let all = ap length (as_flat words) in
    omega arith

pub length-concat-more : (words : List (List ℕ)) (i : ℕ) (word : List ℕ) → i < length words → word ≡ get_or words i word → length (concat (take (i + 1) words)) ≡ length (concat (take i words)) + length word
length-concat-more words i word within at =
    let next : take (i + 1) words ≡ take i words ++ word ∷ [] = take_more words i word within ∙ ap (λ x. take i words ++ x ∷ []) (sym at) in
    let both : concat (take (i + 1) words) ≡ concat (take i words) ++ (word ++ []) = ap concat next ∙ concat-append (take i words) (word ∷ []) in
    ap length both ∙ length-append (concat (take i words)) (word ++ []) ∙ ap (λ n. length (concat (take i words)) + n) (length-append word [] ∙ omega arith)

pub All-next : (words : List (List ℕ)) (i : ℕ) (word : List ℕ) → i < length words → word ≡ get_or words i word → All IsCommandWord (take i words) → IsCommandWord word → All IsCommandWord (take (i + 1) words)
All-next words i word within at each one =
    let next : take (i + 1) words ≡ take i words ++ word ∷ [] = take_more words i word within ∙ ap (λ x. take i words ++ x ∷ []) (sym at) in
    subst (All IsCommandWord) (sym next) (All-push IsCommandWord (take i words) word each one)

pub length-word_bytes : (word : List ℕ) → length (word_bytes word) ≡ 2 + length word
length-word_bytes word = length-append (to_be_bytes w16 (length word)) word

pub length-words : (words : List (List ℕ)) → length (flat_map word_bytes words) ≡ 2 * length words + length (concat words)
length-words [] = refl
length-words (word ∷ words) =
    let rest = length-words words in
    let first = length-word_bytes word in
    let both = length-append (word_bytes word) (flat_map word_bytes words) in
    let joined = length-append word (concat words) in
    omega arith

pub flat_map-next : (words : List (List ℕ)) (i : ℕ) (word : List ℕ) → i < length words → word ≡ get_or words i word → flat_map word_bytes (take (i + 1) words) ≡ flat_map word_bytes (take i words) ++ word_bytes word
flat_map-next words i word within at =
    let next : take (i + 1) words ≡ take i words ++ word ∷ [] = take_more words i word within ∙ ap (λ x. take i words ++ x ∷ []) (sym at) in
    ap (flat_map word_bytes) next ∙ flat_map-append word_bytes (take i words) (word ∷ []) ∙ ap (λ more. flat_map word_bytes (take i words) ++ more) (append-nil (word_bytes word))

pub read_within : (words : List (List ℕ)) (i : ℕ) (word : List ℕ) → slice_get words i ≡ Some word → i < length words → word ≡ get_or words i word
read_within words i word got within = sym (get_or_from_slice_get words i word word got)

-- how long the words with their lengths are
pub short_words : (words : List (List ℕ)) → AreCommandWords words → length (flat_map word_bytes words) ≤ 12064
short_words words are = let few = are.few in let short = are.short in omega (arith, length-words words)

pub short_so_far : (words : List (List ℕ)) (i : ℕ) (d : List ℕ) → AreCommandWords words → i < length words → length (flat_map word_bytes (take i words)) + length (word_bytes (get_or words i d)) ≤ 12064
short_so_far words i d are within = let all = short_words words are in let front = length-flat_map-take word_bytes words i d within in omega arith

pub short_word : (words : List (List ℕ)) (i : ℕ) (word : List ℕ) → AreCommandWords words → i < length words → word ≡ get_or words i word → length word ≤ 12000
short_word words i word are within at =
    let sizes = length-concat-take words i word within in let short = are.short in let same = ap length at in omega arith

-- a record's payload as it is put together
pub put_together : (b0 b1 b2 b3 b4 b5 b6 b7 b8 b9 id digest stamp moment due ip port words : List ℕ) (proto : ℕ)
    → b0 ≡ [] → b1 ≡ b0 ++ id → b2 ≡ b1 ++ digest → b3 ≡ b2 ++ stamp → b4 ≡ b3 ++ moment → b5 ≡ b4 ++ due → b6 ≡ b5 ++ ip → b7 ≡ b6 ++ proto ∷ [] → b8 ≡ b7 ++ port → b9 ≡ b8 ++ words
    → b9 ≡ id ++ (digest ++ (stamp ++ (moment ++ (due ++ (ip ++ (proto ∷ (port ++ words)))))))
put_together b0 b1 b2 b3 b4 b5 b6 b7 b8 b9 id digest stamp moment due ip port words proto e0 e1 e2 e3 e4 e5 e6 e7 e8 e9 =
    e9 ∙ ap (λ x. x ++ words) (e8 ∙ ap (λ x. x ++ port) (e7 ∙ ap (λ x. x ++ proto ∷ []) (e6 ∙ ap (λ x. x ++ ip) (e5 ∙ ap (λ x. x ++ due) (e4 ∙ ap (λ x. x ++ moment) (e3 ∙ ap (λ x. x ++ stamp) (e2 ∙ ap (λ x. x ++ digest) (e1 ∙ ap (λ x. x ++ id) e0))))))))
    ∙ simp append_assoc

pub length-record : (item : OpenRecord) → length (record_bytes item) ≡ 39 + length item.digest.0 + length (words_bytes item.close)
length-record item =
    let words : List ℕ = words_bytes item.close in
    let rest : List ℕ = to_be_bytes w64 item.stamp ++ (to_be_bytes w64 item.moment ++ (to_be_bytes w64 item.due ++ (to_be_bytes w32 item.ip.0 ++ (proto_number item.pair.proto ∷ (to_be_bytes w16 item.pair.port ++ words))))) in
    let behind : length rest ≡ 31 + length words = omega arith in
    let all : length (record_bytes item) ≡ 8 + length (item.digest.0 ++ rest) = omega arith in
    let both = length-append item.digest.0 rest in
    omega arith

pub too_long : (words : List (List ℕ)) (i : ℕ) (word : List ℕ) (room : ℕ) → i < length words → word ≡ get_or words i word → room + length (concat (take i words)) ≡ 12000 → room < length word → AreCommandWords words → ⊥
too_long words i word room within at left over are =
    let sizes = length-concat-take words i word within in let short = are.short in let same = ap length at in omega arith
