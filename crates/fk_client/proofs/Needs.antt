-- What a client's file gives, and what it lacks, is said by its text and by what the words say.
use Rattle.std.proofs.Common.{◌≡◌, ℕ, Bool, true, false, List, [], ◌∷◌, map, Option, Some, None, if◌then◌else◌, refl, sym, ap, ◌∙◌}
use Rattle.std.specs.Prelude.{codes, find, is_some}
use Rattle.std.specs.List.{AllZip}
use Rattle.std.specs.Option.{option_and_then, option_map, option_or}
use Rattle.std.specs.Str.{bytes_eq}
use Rattle.fk_base.specs.FirstFailed.{first_failed}
use Rattle.fk_base.specs.declared.address.Ip4.{Ip4}
use Rattle.fk_base.specs.declared.pair.Pair.{Pair}
use Rattle.fk_lines.specs.Lines.{NumberedLine}
use Rattle.fk_conf.specs.ReadsRc.{IsRcStanzaOf, ReadsRc}
use Rattle.fk_conf.specs.RcFault.{rc_stanzas}
use Rattle.fk_conf.specs.declared.rc_stanza.RcStanza.{RcStanza}
use Rattle.fk_words.specs.declared.command.SendWords.{SendWords}
use Rattle.fk_client.specs.declared.need_fault.NeedFault.TheVariants.{NoStanza, NoServer, NoAccess, NoAllow, NoKey, NoHmacKey}
use Rattle.fk_client.specs.Settle.{address_of, from_file, from_stanza, need_fault, pairs_of, sealing_fault, server_of, stanza_named}
use Rattle.fk_words.specs.CommandOf.{SaysSame}

-- what is needed of a stanza
record Plain : Type 0 where
  name : List ℕ
  server : Option (List ℕ)
  pairs : Option (List Pair)
  allow : Option Ip4
  key : Option (List ℕ)
  mac_key : Option (List ℕ)

abbrev plain : RcStanza → Plain
plain s = record { name = s.name; server = s.server; pairs = s.pairs; allow = s.allow; key = s.key; mac_key = s.mac_key }

plain-same : (lines : List NumberedLine) (x y : RcStanza) → IsRcStanzaOf lines x → IsRcStanzaOf lines y → plain x ≡ plain y
plain-same [] x y s t = absurd s
plain-same (head ∷ lines) x y s t =
    let name = s.name ∙ sym t.name in
    let server = s.given.server ∙ sym t.given.server in
    let pairs = s.given.pairs ∙ sym t.given.pairs in
    let allow = s.given.allow ∙ sym t.given.allow in
    let key = s.given.key ∙ sym t.given.key in
    let mac_key = s.given.mac_key ∙ sym t.given.mac_key in
    λ i. record { name = name i; server = server i; pairs = pairs i; allow = allow i; key = key i; mac_key = mac_key i }

plains-same : (lines : List (List NumberedLine)) (x y : List RcStanza) → AllZip IsRcStanzaOf lines x → AllZip IsRcStanzaOf lines y → map plain x ≡ map plain y
plains-same [] [] [] s t = refl
plains-same [] [] (b ∷ y) s t = absurd t
plains-same [] (a ∷ x) y s t = absurd s
plains-same (l ∷ lines) [] y s t = absurd s
plains-same (l ∷ lines) (a ∷ x) [] s t = absurd t
plains-same (l ∷ lines) (a ∷ x) (b ∷ y) s t =
    ap (λ (p : Plain). p ∷ map plain x) (plain-same l a b s.0 t.0) ∙ ap (λ (r : List Plain). plain b ∷ r) (plains-same lines x y s.1 t.1)

abbrev plain_named : List ℕ → List Plain → Option Plain
plain_named name file = find (λ p. bytes_eq p.name name) file

found-if : (hit : Bool) (s : RcStanza) (found : Option RcStanza) → option_map plain (if hit then Some s else found) ≡ (if hit then Some (plain s) else option_map plain found)
found-if true s found = refl
found-if false s found = refl

found-plain : (name : List ℕ) (file : List RcStanza) → option_map plain (stanza_named name file) ≡ plain_named name (map plain file)
found-plain name [] = refl
found-plain name (s ∷ file) =
    found-if (bytes_eq s.name name) s (stanza_named name file)
    ∙ ap (λ (found : Option Plain). if bytes_eq s.name name then Some (plain s) else found) (found-plain name file)

then-plain : {X : Type 0} (f : Plain → Option X) (found : Option RcStanza) → option_and_then (λ s. f (plain s)) found ≡ option_and_then f (option_map plain found)
then-plain f None = refl
then-plain f (Some s) = refl

some-plain : (found : Option RcStanza) → is_some found ≡ is_some (option_map plain found)
some-plain None = refl
some-plain (Some s) = refl

given-same : {X : Type 0} (f : Plain → Option X) (x y : List RcStanza) (m n : List ℕ) → map plain x ≡ map plain y → m ≡ n
    → from_stanza (λ s. f (plain s)) x m ≡ from_stanza (λ s. f (plain s)) y n
given-same f x y m n files names =
    then-plain f (stanza_named m x)
    ∙ ap (option_and_then f) (found-plain m x ∙ ap (plain_named m) files ∙ ap (λ (name : List ℕ). plain_named name (map plain y)) names ∙ sym (found-plain n y))
    ∙ sym (then-plain f (stanza_named n y))

from-same : {X : Type 0} (f : Plain → Option X) (x y : List RcStanza) (m n : List ℕ) → map plain x ≡ map plain y → m ≡ n
    → from_file (λ s. f (plain s)) x m ≡ from_file (λ s. f (plain s)) y n
from-same f x y m n files names =
    ap (λ o. option_or o (from_stanza (λ s. f (plain s)) x (codes "default"))) (given-same f x y m n files names)
    ∙ ap (λ o. option_or (from_stanza (λ s. f (plain s)) y n) o) (given-same f x y (codes "default") (codes "default") files refl)

named-same : (x y : List RcStanza) (m n : List ℕ) → map plain x ≡ map plain y → m ≡ n → is_some (stanza_named m x) ≡ is_some (stanza_named n y)
named-same x y m n files names =
    some-plain (stanza_named m x)
    ∙ ap is_some (found-plain m x ∙ ap (plain_named m) files ∙ ap (λ (name : List ℕ). plain_named name (map plain y)) names ∙ sym (found-plain n y))
    ∙ sym (some-plain (stanza_named n y))

server-same : (x y : List RcStanza) (a b : SendWords) → map plain x ≡ map plain y → SaysSame a b → server_of x a ≡ server_of y b
server-same x y a b files same =
    ap (λ o. option_or o (option_or (from_file (λ s. s.server) x a.name) (if a.print then Some [] else None))) same.server
    ∙ ap (λ o. option_or b.server (option_or o (if a.print then Some [] else None))) (from-same (λ p. p.server) x y a.name b.name files same.name)
    ∙ ap (λ (shown : Bool). option_or b.server (option_or (from_file (λ s. s.server) y b.name) (if shown then Some [] else None))) same.print

pairs-same : (x y : List RcStanza) (a b : SendWords) → map plain x ≡ map plain y → SaysSame a b → pairs_of x a ≡ pairs_of y b
pairs-same x y a b files same =
    ap (λ o. option_or o (from_file (λ s. s.pairs) x a.name)) same.pairs
    ∙ ap (λ o. option_or b.pairs o) (from-same (λ p. p.pairs) x y a.name b.name files same.name)

address-same : (x y : List RcStanza) (a b : SendWords) → map plain x ≡ map plain y → SaysSame a b → address_of x a ≡ address_of y b
address-same x y a b files same =
    ap (λ o. option_or o (from_file (λ s. s.allow) x a.name)) same.allow
    ∙ ap (λ o. option_or b.allow o) (from-same (λ p. p.allow) x y a.name b.name files same.name)

first-same : (a b c d e f a' b' c' d' e' f' : Bool) → a ≡ a' → b ≡ b' → c ≡ c' → d ≡ d' → e ≡ e' → f ≡ f' →
    first_failed ((a, NoStanza) ∷ (b, NoServer) ∷ (c, NoAccess) ∷ (d, NoAllow) ∷ (e, NoKey) ∷ (f, NoHmacKey) ∷ [])
    ≡ first_failed ((a', NoStanza) ∷ (b', NoServer) ∷ (c', NoAccess) ∷ (d', NoAllow) ∷ (e', NoKey) ∷ (f', NoHmacKey) ∷ [])
first-same a b c d e f a' b' c' d' e' f' p q r s t u =
    λ i. first_failed ((p i, NoStanza) ∷ (q i, NoServer) ∷ (r i, NoAccess) ∷ (s i, NoAllow) ∷ (t i, NoKey) ∷ (u i, NoHmacKey) ∷ [])

-- the same text and words that say the same lack the same
pub needs-same : (text : List ℕ) (x y : List RcStanza) (a b : SendWords) → ReadsRc text x → ReadsRc text y → SaysSame a b → need_fault x a ≡ need_fault y b
needs-same text x y a b s t same =
    let files : map plain x ≡ map plain y = plains-same (rc_stanzas text) x y s.each t.each in
    first-same _ _ _ _ _ _ _ _ _ _ _ _
    (named-same x y a.name b.name files same.name)
    (ap is_some (server-same x y a b files same))
    (ap is_some (pairs-same x y a b files same))
    (ap is_some (address-same x y a b files same))
    (ap is_some (from-same (λ p. p.key) x y a.name b.name files same.name))
    (ap is_some (from-same (λ p. p.mac_key) x y a.name b.name files same.name))

-- sealing by the same text and name lacks the same
pub sealing-same : (text : List ℕ) (x y : List RcStanza) (name : List ℕ) → ReadsRc text x → ReadsRc text y → sealing_fault x name ≡ sealing_fault y name
sealing-same text x y name s t =
    let files : map plain x ≡ map plain y = plains-same (rc_stanzas text) x y s.each t.each in
    let named = named-same x y name name files refl in
    let key = ap is_some (from-same (λ p. p.key) x y name name files refl) in
    let mac_key = ap is_some (from-same (λ p. p.mac_key) x y name name files refl) in
    λ i. first_failed ((named i, NoStanza) ∷ (key i, NoKey) ∷ (mac_key i, NoHmacKey) ∷ [])
