-- One entry, and a list of entries, read from the bytes of an area.
use Rattle.std.proofs.Common.{◌≡◌, ◌⊎◌, ℕ, ◌+◌, ◌<◌, ◌≤◌, List, [], ◌∷◌, ◌++◌, length, take, drop, get_or, inl, inr, ap, ◌∙◌, sym, subst, arith}
use Rattle.std.specs.Int.{w32, to_be_bytes, from_be_bytes}
use Rattle.std.proofs.lemmas.Nat.{be_bytes_4, from_be_bytes-to_be_bytes_4}
use Rattle.std.proofs.lemmas.List.{append_assoc, length-append, length-take, length-take-le, take_at, drop_at, take-append-drop, drop_more, drop-drop, length-drop, get_or-take, get_or_past}
use Rattle.std.proofs.lemmas.Bool.{cases_lt}
use Rattle.fk_journal.specs.declared.entry.Entry.{Entry}
use Rattle.fk_journal.specs.Entries.{format_byte, Content, IsContent, body, entry_bytes, entries_bytes, place_behind, content_of_entry, contents_of, ArePlacedFrom, BeginsWith, IsClosedBehind, IsDamagedAt}
use Rattle.fk_journal.proofs.Tails.{front, length_4, entries-push, all-push, place_behind-push}

-- the bytes begin with no entry
abbrev pub NoContent : List ℕ → Type 0
NoContent bytes = (content : Content) (gate : ℕ) (more : List ℕ) → IsContent content → bytes ≡ body content ++ gate ∷ more → ⊥

body_size : (content : Content) → length (body content) ≡ 5 + length content.payload
body_size content = omega (arith, length-append (to_be_bytes w32 (length content.payload)) (content.kind ∷ content.payload), length_4 (length content.payload))

body_split : (bytes : List ℕ) (content : Content) (gate : ℕ) (more : List ℕ) → bytes ≡ body content ++ gate ∷ more
    → (take 4 bytes ≡ to_be_bytes w32 (length content.payload)) × (drop 4 bytes ≡ content.kind ∷ content.payload ++ gate ∷ more)
body_split bytes content gate more is =
    let head : List ℕ = to_be_bytes w32 (length content.payload) in
    let tail : List ℕ = content.kind ∷ content.payload ++ gate ∷ more in
    let split : bytes ≡ head ++ tail = is ∙ append_assoc head (content.kind ∷ content.payload) (gate ∷ more) in
    (ap (take 4) split ∙ take_at head tail 4 (length_4 (length content.payload)), ap (drop 4) split ∙ drop_at head tail 4 (length_4 (length content.payload)))

pub none_short : (bytes : List ℕ) → length bytes < 4 → NoContent bytes
none_short bytes short content gate more one is =
    omega (arith, short, ap length is, length-append (body content) (gate ∷ more), body_size content)

pub none_bare : (bytes : List ℕ) → length (drop 4 bytes) ≡ 0 → NoContent bytes
none_bare bytes bare content gate more one is =
    omega (arith, bare, ap length (body_split bytes content gate more is).1, length-append (content.kind ∷ content.payload) (gate ∷ more))

pub none_wrong : (bytes rest : List ℕ) (kind size : ℕ) → drop 4 bytes ≡ kind ∷ rest → size ≡ from_be_bytes w32 (take 4 bytes)
    → ((kind < 1) ⊎ (4 < kind)) ⊎ (length rest ≤ size) → NoContent bytes
none_wrong bytes rest kind size rest_is size_is wrong content gate more one is =
    let parts = body_split bytes content gate more is in
    let same : kind ∷ rest ≡ content.kind ∷ content.payload ++ gate ∷ more = sym rest_is ∙ parts.1 in
    let kinds : kind ≡ content.kind = cc in
    let rests : rest ≡ content.payload ++ gate ∷ more = cc in
    let sizes : size ≡ length content.payload = size_is ∙ ap (from_be_bytes w32) parts.0 ∙ from_be_bytes-to_be_bytes_4 (length content.payload) one.size in
    elim wrong [
      | inl kinds_wrong ↦ elim kinds_wrong [ inl low ↦ omega (arith, low, kinds, one.kind.0) | inr high ↦ omega (arith, high, kinds, one.kind.1) ]
      | inr short ↦ omega (arith, short, sizes, ap length rests, length-append content.payload (gate ∷ more))
    ]

small_take : (bytes : List ℕ) → ((i : ℕ) → get_or bytes i 0 < 256) → (i : ℕ) → get_or (take 4 bytes) i 0 < 256
small_take bytes small i = elim (cases_lt i 4) [
  | inl inside ↦ subst (λ (n : ℕ). n < 256) (sym (get_or-take 4 bytes i 0 inside)) (small i)
  | inr past ↦ subst (λ (n : ℕ). n < 256) (sym (get_or_past (take 4 bytes) i 0 (omega (arith, length-take 4 bytes)))) (omega arith)
]

pub found : (bytes rest : List ℕ) (kind size : ℕ) → 4 ≤ length bytes → ((i : ℕ) → get_or bytes i 0 < 256) → drop 4 bytes ≡ kind ∷ rest → size ≡ from_be_bytes w32 (take 4 bytes) → size < length rest
    → (gate : ℕ) × (more : List ℕ) × (bytes ≡ body (record { kind = kind; payload = take size rest }) ++ gate ∷ more)
found bytes rest kind size long small rest_is size_is within =
    let head : List ℕ = take 4 bytes in
    let payload : List ℕ = take size rest in
    let head_long : length head ≡ 4 = length-take-le 4 bytes long in
    let head_small : (i : ℕ) → get_or head i 0 < 256 = small_take bytes small in
    let payload_long : length payload ≡ size = length-take-le size rest (omega (arith, within)) in
    let head_is : to_be_bytes w32 (length payload) ≡ head = be_bytes_4 head (length payload) head_long head_small (payload_long ∙ size_is) in
    let tail : drop size rest ≡ get_or rest size 0 ∷ drop (size + 1) rest = drop_more rest size 0 within in (
      get_or rest size 0,
      drop (size + 1) rest,
      sym (take-append-drop 4 bytes)
          ∙ ap (λ r. head ++ r) rest_is
          ∙ ap (λ r. head ++ kind ∷ r) (sym (take-append-drop size rest) ∙ ap (λ t. payload ++ t) tail)
          ∙ ap (λ h. h ++ kind ∷ (payload ++ get_or rest size 0 ∷ drop (size + 1) rest)) (sym head_is)
          ∙ sym (append_assoc (to_be_bytes w32 (length payload)) (kind ∷ payload) (get_or rest size 0 ∷ drop (size + 1) rest)),
    )

-- one entry more
pub next_entry : (contents : List Content) (content : Content) (bytes : List ℕ) (at gate : ℕ) (more : List ℕ) → at ≡ place_behind contents → at < length bytes
    → BeginsWith format_byte contents (drop at bytes) bytes → get_or bytes at 0 ≡ 1 → IsContent content → drop (at + 1) bytes ≡ body content ++ gate ∷ more
    → BeginsWith format_byte (contents ++ content ∷ []) (drop (at + (6 + length content.payload)) bytes) bytes
    × (at + (6 + length content.payload) < length bytes) × (at + (6 + length content.payload) ≡ place_behind (contents ++ content ∷ []))
next_entry contents content bytes at gate more at_is inside begins is_open one behind =
    let here : drop at bytes ≡ entry_bytes content ++ gate ∷ more = drop_more bytes at 0 inside ∙ ap (λ g. g ∷ drop (at + 1) bytes) is_open ∙ ap (λ r. 1 ∷ r) behind in
    let size : length (entry_bytes content) ≡ 6 + length content.payload = omega (arith, body_size content) in
    let next : drop (at + (6 + length content.payload)) bytes ≡ gate ∷ more =
    sym (drop-drop (6 + length content.payload) at bytes) ∙ ap (drop (6 + length content.payload)) here ∙ drop_at (entry_bytes content) (gate ∷ more) (6 + length content.payload) size in (
      record {
        each = all-push contents content begins.each one;
        bytes = begins.bytes ∙ ap (λ r. front contents ++ r) here ∙ sym (append_assoc (front contents) (entry_bytes content) (gate ∷ more))
            ∙ ap (λ es. (format_byte ∷ es) ++ gate ∷ more) (sym (entries-push contents content))
            ∙ ap (λ r. front (contents ++ content ∷ []) ++ r) (sym next);
      },
      omega (arith, ap length next, length-drop (at + (6 + length content.payload)) bytes),
      omega (arith, at_is, place_behind-push contents content, size),
    )

pub placed-push : (place : ℕ) (entries : List Entry) (entry : Entry) → ArePlacedFrom place entries → entry.place ≡ place + length (entries_bytes (contents_of entries)) → ArePlacedFrom place (entries ++ entry ∷ [])
placed-push place [] entry placed is = (omega (arith, is), tt)
placed-push place (e ∷ es) entry placed is = (
  placed.0,
  placed-push (place + length (entry_bytes (content_of_entry e))) es entry placed.1
      (is ∙ omega (arith, length-append (entry_bytes (content_of_entry e)) (entries_bytes (contents_of es)))),
)

-- behind these entries stands a gate that isn't open
pub closed_here : (contents : List Content) (bytes : List ℕ) (at : ℕ) → at < length bytes → BeginsWith format_byte contents (drop at bytes) bytes → (get_or bytes at 0 ≡ 1 → ⊥) → IsClosedBehind contents bytes
closed_here contents bytes at inside begins closed =
    (get_or bytes at 0, drop (at + 1) bytes, closed, record { each = begins.each; bytes = begins.bytes ∙ ap (λ r. front contents ++ r) (drop_more bytes at 0 inside) })

-- behind these entries stands an open gate and no entry
pub damaged_here : (contents : List Content) (bytes : List ℕ) (at : ℕ) → 3 ≤ length bytes → at ≡ place_behind contents → at < length bytes → BeginsWith format_byte contents (drop at bytes) bytes → get_or bytes at 0 ≡ 1
    → NoContent (drop (at + 1) bytes) → IsDamagedAt bytes at
damaged_here contents bytes at long at_is inside begins is_open none = (
  long,
  inr (
    contents,
    drop at bytes,
    begins,
    (drop (at + 1) bytes, drop_more bytes at 0 inside ∙ ap (λ g. g ∷ drop (at + 1) bytes) is_open, none),
    at_is,
  ),
)
