-- What one line more leaves of the output, and of the text of the first lines.
use Rattle.std.proofs.Common.{◌≡◌, ℕ, suc, zero, ◌+◌, ◌<◌, ◌/◌, ◌%◌, true, false, List, [], ◌∷◌, ◌++◌, Option, Some, None, Result, IfOk, length, map, slice_get, take, get_or, refl, ap, sym, subst, ◌∙◌, append-nil, arith}
use Rattle.std.specs.Prelude.{codes}
use Rattle.std.specs.Fmt.{decimal}
use Rattle.std.specs.List.{flat_map}
use Rattle.std.proofs.lemmas.Grind.{flat_map-append}
use Rattle.std.proofs.lemmas.List.{take_more}
use Rattle.std.proofs.lemmas.Result.{IfOk-weaker}
use Rattle.fk_base.specs.Address.{ip_text}
use Rattle.fk_base.specs.declared.address.Ip4.{Ip4}
use Rattle.fk_base.specs.declared.hash_kind.HashKind.TheVariants.{Sha256}
use Rattle.fk_base.specs.declared.memory.NoMemory.{NoMemory}
use Rattle.fk_base.specs.declared.pair.Pair.{Pair}
use Rattle.fk_base.specs.declared.pair.Proto.TheVariants.{Tcp}
use Rattle.fk_fields.specs.declared.fields.Ask.TheVariants.{Access}
use Rattle.fk_host.specs.Stream.{Gives}
use Rattle.fk_trace.specs.declared.change.Change.{Change}
use Rattle.fk_log.specs.Line.{words_text}
use Rattle.fk_log.specs.Printing.{SinkView, Prints}
use Rattle.fk_log.proofs.CommandTexts.{words_text-next}
use Rattle.fk_client.proofs.Saying.{prints-behind}
use Rattle.fk_tool.specs.JournalText.{AreShown, change_text, journal_text}
use Rattle.fk_tool.specs.Lines.{PrintsLines, line_of_parts}
use Rattle.fk_tool.specs.Generated.{AreGeneratedFields, IsGeneratedDatagram, IsGeneratedLine, IsGeneratedText, address_of, moment_of, rand_of}
use Rattle.fk_tool.specs.Generated.IsGeneratedText.{next}

pub gives-none : (written : Option (List ℕ)) → Gives [] written written
gives-none None = tt
gives-none (Some bytes) = ap Some (sym (append-nil bytes))

-- nothing was printed yet
pub lines-none : {IsText : ℕ → List ℕ → Type 0} (sink : SinkView) → IsText 0 [] → PrintsLines IsText 0 false sink sink
lines-none sink is = record { text = []; is = is; printed = (gives-none sink.written, refl) }

-- one line more was printed
pub lines-next : {IsText : ℕ → List ℕ → Type 0} (count : ℕ) (line : List ℕ) (old mid new : SinkView)
    → ((text : List ℕ) → IsText count text → IsText (count + 1) (text ++ line)) → PrintsLines IsText count false old mid → Prints line false mid new
    → PrintsLines IsText (count + 1) false old new
lines-next count line old mid new step before one = record {
  text = before.text ++ line;
  is = step before.text before.is;
  printed = prints-behind before.text line false old mid new before.printed one;
}

-- one line more was not printed wholly
pub lines-break : {IsText : ℕ → List ℕ → Type 0} (count : ℕ) (line : List ℕ) (old mid new : SinkView)
    → ((text : List ℕ) → IsText count text → IsText (count + 1) (text ++ line)) → PrintsLines IsText count false old mid → Prints line true mid new
    → PrintsLines IsText (count + 1) true old new
lines-break count line old mid new step before one = record {
  text = before.text ++ line;
  is = step before.text before.is;
  printed = prints-behind before.text line true old mid new before.printed one;
}

-- the text of one change more
pub shown-next : (ledger : List Change) (i : ℕ) (change : Change) → i < length ledger → change ≡ get_or ledger i change → (text : List ℕ) → AreShown ledger i text
    → AreShown ledger (i + 1) (text ++ change_text change)
shown-next ledger i change within at text is =
    let more : take (i + 1) ledger ≡ take i ledger ++ change ∷ [] = take_more ledger i change within ∙ ap (λ x. take i ledger ++ x ∷ []) (sym at) in
    let one : flat_map change_text (change ∷ []) ≡ change_text change = append-nil (change_text change) in
    ap (λ t. t ++ change_text change) is ∙ ap (λ t. journal_text (take i ledger) ++ t) (sym one)
    ∙ sym (flat_map-append change_text (take i ledger) (change ∷ [])) ∙ ap journal_text (sym more)

-- a digit is below ten
pub digits-once : (number : ℕ) (units : List ℕ) → map (λ byte. 48 + byte % 10) (map (λ unit. number / unit % 10) units) ≡ map (λ unit. 48 + number / unit % 10) units
digits-once number [] = refl
digits-once number (unit ∷ units) =
    let once : number / unit % 10 % 10 ≡ number / unit % 10 = omega arith in
    ap (λ digit. (48 + digit) ∷ map (λ byte. 48 + byte % 10) (map (λ unit. number / unit % 10) units)) once
    ∙ ap (λ digits. (48 + number / unit % 10) ∷ digits) (digits-once number units)

slice_get-map : {X : Type 0} (f : X → List ℕ) (xs : List X) (i : ℕ) (d : X) → i < length xs → slice_get (map f xs) i ≡ Some (f (get_or xs i d))
slice_get-map f [] i d within = absurd (omega (arith, within))
slice_get-map f (x ∷ xs) zero d within = refl
slice_get-map f (x ∷ xs) (suc i) d within = slice_get-map f xs i d (omega (arith, within))

-- the next of some parts behind those before it
pub parts-next : {X : Type 0} (f : X → List ℕ) (xs : List X) (i : ℕ) (d : X) (text line : List ℕ) → 0 < i → i < length xs → text ≡ words_text (take i (map f xs))
    → line ≡ text ++ 32 ∷ f (get_or xs i d) → line ≡ words_text (take (i + 1) (map f xs))
parts-next f xs i d text line above within before one =
    one ∙ ap (λ t. t ++ 32 ∷ f (get_or xs i d)) before ∙ sym (words_text-next (map f xs) i (f (get_or xs i d)) above (slice_get-map f xs i d within))

pub words-next : (words : List (List ℕ)) (i : ℕ) (word text line : List ℕ) → 0 < i → slice_get words i ≡ Some word → text ≡ words_text (take i words)
    → line ≡ text ++ 32 ∷ word → line ≡ words_text (take (i + 1) words)
words-next words i word text line above at before one = one ∙ ap (λ t. t ++ 32 ∷ word) before ∙ sym (words_text-next words i word above at)

-- the text of one change more, of which this was shown
pub shown-step : (ledger : List Change) (i : ℕ) (change : Change) (line shown : List ℕ) → i < length ledger → change ≡ get_or ledger i change → line ≡ change_text change
    → shown ≡ line → (text : List ℕ) → AreShown ledger i text → AreShown ledger (i + 1) (text ++ shown)
shown-step ledger i change line shown within at is same text before =
    subst (λ (t : List ℕ). AreShown ledger (i + 1) (text ++ t)) (sym (same ∙ is)) (shown-next ledger i change within at text before)

-- the text of one generated line more, of which this was shown
pub generated-step : (count : ℕ) (line shown : List ℕ) → shown ≡ line → IsGeneratedLine count line → (text : List ℕ) → IsGeneratedText count text
    → IsGeneratedText (count + 1) (text ++ shown)
generated-step count line shown same is text before = subst (λ (t : List ℕ). IsGeneratedText (count + 1) (text ++ t)) (sym same) (next before is)

-- the fields of a number, by their parts
pub fields-are : (number : ℕ) (rand user version : List ℕ) (ip : Ip4) (pairs : List Pair) (pair : Pair) → rand ≡ rand_of number → user ≡ codes "gen"
    → version ≡ codes "3.0.0" → ip ≡ address_of number → pairs ≡ pair ∷ [] → pair.proto ≡ Tcp → pair.port ≡ 22
    → AreGeneratedFields number (record { rand = rand; user = user; stamp = moment_of number; version = version; ask = Access ip pairs; kind = Sha256 })
fields-are number rand user version ip pairs pair r u v i p proto port = record { pair = pair; proto = proto; port = port; are = cc }

-- the line of a number, by its parts
pub line-is : (number : ℕ) (result : Result (List ℕ) NoMemory) (moment address datagram : List ℕ) → moment ≡ decimal (moment_of number) → address ≡ ip_text (address_of number)
    → IsGeneratedDatagram number datagram → IfOk result (λ line. line ≡ line_of_parts (moment ∷ address ∷ datagram ∷ [])) → IfOk result (IsGeneratedLine number)
line-is number result moment address datagram m a is joined =
    IfOk-weaker result (λ line. line ≡ line_of_parts (moment ∷ address ∷ datagram ∷ [])) (IsGeneratedLine number) (λ line e. record {
      datagram = datagram;
      is = is;
      joined = e ∙ ap (λ x. line_of_parts (x ∷ address ∷ datagram ∷ [])) m ∙ ap (λ x. line_of_parts (decimal (moment_of number) ∷ x ∷ datagram ∷ [])) a;
    }) joined
