-- The pieces of a plaintext that were written one behind the other.
use Rattle.std.proofs.Common.{◌≡◌, ℕ, List, [], ◌∷◌, ◌++◌, refl, append_assoc}
use Rattle.std.specs.List.{join_with_byte}
use Rattle.std.specs.Fmt.{decimal}
use Rattle.fk_text.specs.Text.{text_of}
use Rattle.fk_mac.specs.Hmac.{hash_of}
use Rattle.fk_fields.specs.declared.fields.Ask.{Ask}
use Rattle.fk_fields.specs.declared.fields.Ask.TheVariants.{Access, Timed}
use Rattle.fk_fields.specs.declared.fields.Fields.{Fields}
use Rattle.fk_fields.specs.Fields.{asked_ip, asked_pairs}
use Rattle.fk_fields.specs.Message.{message_text}
use Rattle.fk_codec.specs.Private.{ask_text}
use Rattle.fk_codec.specs.Spells.{front_of, spelled, timeout_parts, type_text}

ask_joined : (ask : Ask)
    → ask_text ask ≡ 58 ∷ join_with_byte 58 (type_text ask ∷ text_of (message_text (asked_ip ask) (asked_pairs ask)) ∷ timeout_parts ask)
ask_joined (Access ip pairs) = refl
ask_joined (Timed ip pairs seconds) = refl

joined : (out rand user stamp version rest : List ℕ)
    → (out ++ rand) ++ 58 ∷ user ++ 58 ∷ stamp ++ 58 ∷ version ++ 58 ∷ rest ≡ out ++ (rand ++ 58 ∷ (user ++ 58 ∷ (stamp ++ 58 ∷ (version ++ 58 ∷ rest))))
joined out rand user stamp version rest = simp append_assoc

pub front_written : (f : Fields) (out a b c d e : List ℕ) → a ≡ out ++ f.rand → b ≡ a ++ 58 ∷ text_of f.user → c ≡ b ++ 58 ∷ decimal f.stamp
    → d ≡ c ++ 58 ∷ f.version → e ≡ d ++ ask_text f.ask → e ≡ out ++ front_of f
unfolding front_of
front_written f out a b c d e ae be ce de ee =
    rw (ee, de, ce, be, ae, ask_joined f.ask)
    (joined out f.rand (text_of f.user) (decimal f.stamp) f.version
    (join_with_byte 58 (type_text f.ask ∷ text_of (message_text (asked_ip f.ask) (asked_pairs f.ask)) ∷ timeout_parts f.ask)))

pub whole_written : (f : Fields) (none front text : List ℕ) → none ≡ [] → front ≡ none ++ front_of f
    → text ≡ front ++ 58 ∷ text_of (hash_of f.kind front) → text ≡ spelled f
unfolding spelled
whole_written f none front text n w t = rw (t, w, n) refl
