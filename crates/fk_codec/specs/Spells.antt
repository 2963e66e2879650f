-- The one plaintext of fields: their parts joined by `:` (58), and last the digest of all before it.
use Rattle.std.specs.Prelude.{◌≡◌, ℕ, List, [], ◌∷◌, ◌++◌, codes}
use Rattle.std.specs.List.{join_with_byte}
use Rattle.std.specs.Fmt.{decimal}
use Rattle.fk_base.specs.declared.hash_kind.HashKind.{HashKind}
use Rattle.fk_text.specs.Text.{text_of}
use Rattle.fk_mac.specs.Hmac.{hash_of}
use Rattle.fk_fields.specs.declared.fields.Ask.{Ask}
use Rattle.fk_fields.specs.declared.fields.Ask.TheVariants.{Access, Timed}
use Rattle.fk_fields.specs.declared.fields.Fields.{Fields}
use Rattle.fk_fields.specs.Fields.{IsFields, asked_ip, asked_pairs}
use Rattle.fk_fields.specs.Message.{message_text}

-- the type of a request: 1 asks for access, 3 for access of so many seconds
abbrev pub type_text : Ask → List ℕ
type_text (Access ip pairs) = codes "1"
type_text (Timed ip pairs seconds) = codes "3"

-- the part behind the message that a timed request alone has
abbrev pub timeout_parts : Ask → List (List ℕ)
timeout_parts (Access ip pairs) = []
timeout_parts (Timed ip pairs seconds) = decimal seconds ∷ []

-- the parts before the digest, in their order
abbrev pub parts_of : Fields → List (List ℕ)
parts_of f =
    f.rand ∷ text_of f.user ∷ decimal f.stamp ∷ f.version ∷ type_text f.ask ∷ text_of (message_text (asked_ip f.ask) (asked_pairs f.ask))
    ∷ timeout_parts f.ask

-- all that stands before the digest and its `:`
unfoldable pub front_of : Fields → List ℕ
front_of f = join_with_byte 58 (parts_of f)

-- the digest of a front: its hash as unpadded base64
abbrev pub digest_text : HashKind → List ℕ → List ℕ
digest_text kind front = text_of (hash_of kind front)

-- the one plaintext of the fields
unfoldable pub spelled : Fields → List ℕ
spelled f = front_of f ++ 58 ∷ digest_text f.kind (front_of f)

-- the text is the plaintext of fields that are within their rules
abbrev pub Spells : Fields → List ℕ → Type 0
Spells f text = IsFields f × (text ≡ spelled f)
