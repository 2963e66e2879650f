-- What a write at the closing gate or behind it does to the bytes of an area, done whole or in part.
use Rattle.std.proofs.Common.{◌≡◌, ◌≢◌, ◌⊎◌, ℕ, ◌+◌, ◌<◌, ◌≤◌, List, [], ◌∷◌, ◌++◌, length, take, drop, get_or, set, refl, inl, inr, ap, ◌∙◌, sym, subst, arith}
use Rattle.std.specs.List.{AllByRecursion}
use Rattle.std.specs.Int.{w32, to_be_bytes}
use Rattle.std.proofs.lemmas.Bool.{cases_eq, cases_lt}
use Rattle.std.proofs.lemmas.List.{append-nil, append_assoc, length-append, length-set, ext_get_or, get_or-set_same, get_or-set_other, set_at, take_at, drop_at}
use Rattle.std.proofs.lemmas.List.Prefix.{front_from_reads, front_reads}
use Rattle.fk_host.specs.Disk.{Written, Torn}
use Rattle.fk_journal.specs.Entries.{format_byte, Content, IsContent, body, entry_bytes, entries_bytes, place_behind, IsClosedBehind, HoldsEntries}

-- the format byte and the entries
abbrev pub front : List Content → List ℕ
front contents = format_byte ∷ entries_bytes contents

pub length-front : (contents : List Content) → length (front contents) ≡ place_behind contents
length-front contents = omega arith

pub entries-push : (contents : List Content) (content : Content) → entries_bytes (contents ++ content ∷ []) ≡ entries_bytes contents ++ entry_bytes content
entries-push [] content = append-nil (entry_bytes content)
entries-push (c ∷ cs) content = ap (λ bytes. entry_bytes c ++ bytes) (entries-push cs content) ∙ sym (append_assoc (entry_bytes c) (entries_bytes cs) (entry_bytes content))

pub all-push : (contents : List Content) (content : Content) → AllByRecursion IsContent contents → IsContent content → AllByRecursion IsContent (contents ++ content ∷ [])
all-push [] content all one = (one, tt)
all-push (c ∷ cs) content all one = (all.0, all-push cs content all.1 one)

pub length_4 : (n : ℕ) → length (to_be_bytes w32 n) ≡ 4
length_4 n = refl

-- the place behind one entry more
pub place_behind-push : (contents : List Content) (content : Content) → place_behind (contents ++ content ∷ []) ≡ place_behind contents + length (entry_bytes content)
place_behind-push contents content = omega (arith, ap length (entries-push contents content), length-append (entries_bytes contents) (entry_bytes content))

pub place_behind-next : (contents : List Content) (content : Content) → place_behind (contents ++ content ∷ []) ≡ place_behind contents + (6 + length content.payload)
place_behind-next contents content = omega (arith, place_behind-push contents content, length-append (to_be_bytes w32 (length content.payload)) (content.kind ∷ content.payload), length_4 (length content.payload))

-- bytes behind the closing gate are torn: the entries stay
pub torn_tail : (contents : List Content) (count : ℕ) (old new : List ℕ) → IsClosedBehind contents old → Torn (place_behind contents + 1) count old new → IsClosedBehind contents new
torn_tail contents count old new (gate, rest, closed, begins) torn =
    let here : List ℕ = front contents ++ gate ∷ [] in
    let size : length here ≡ place_behind contents + 1 = omega (arith, length-append (front contents) (gate ∷ [])) in
    let old_is : old ≡ here ++ rest = begins.bytes ∙ sym (append_assoc (front contents) (gate ∷ []) rest) in
    let fits : length here ≤ length old = omega (arith, ap length old_is, length-append here rest) in
    let reads : (i : ℕ) → i < length here → get_or new i 0 ≡ get_or here i 0 = λ i below.
    torn.kept i (omega (arith, below, fits)) (inl (omega (arith, below, size))) ∙ front_reads 0 old here rest old_is i below in
    let new_is : new ≡ here ++ drop (length here) new = front_from_reads 0 new here (omega (arith, fits, torn.no_shorter)) reads in
    (gate, drop (length here) new, closed, record { each = begins.each; bytes = new_is ∙ append_assoc (front contents) (gate ∷ []) (drop (length here) new) })

-- what is written behind the closing gate
pub written_tail : (contents : List Content) (gate : ℕ) (rest bytes old new : List ℕ) → old ≡ front contents ++ gate ∷ rest → Written (place_behind contents + 1) bytes old new
    → new ≡ front contents ++ gate ∷ (bytes ++ drop (place_behind contents + 1 + length bytes) old)
written_tail contents gate rest bytes old new old_is written =
    let here : List ℕ = front contents ++ gate ∷ [] in
    let size : length here ≡ place_behind contents + 1 = omega (arith, length-append (front contents) (gate ∷ [])) in
    let taken : take (place_behind contents + 1) old ≡ here =
    ap (take (place_behind contents + 1)) (old_is ∙ sym (append_assoc (front contents) (gate ∷ []) rest)) ∙ take_at here rest (place_behind contents + 1) size in
    written
    ∙ ap (λ p. p ++ bytes ++ drop (place_behind contents + 1 + length bytes) old) taken
    ∙ append_assoc here bytes (drop (place_behind contents + 1 + length bytes) old)
    ∙ append_assoc (front contents) (gate ∷ []) (bytes ++ drop (place_behind contents + 1 + length bytes) old)

beside : (i at : ℕ) → i ≢ at → (i < at) ⊎ (at + 1 ≤ i)
beside i at apart = elim (cases_lt i at) [ inl low ↦ inl low | inr high ↦ inr (grind (arith, apart)) ]

-- one byte that is torn is some byte
torn_byte : (at : ℕ) (old new : List ℕ) → at < length old → Torn at 1 old new → new ≡ set old at (get_or new at 0)
torn_byte at old new inside torn =
    let same : length new ≡ length old = omega (arith, torn.no_shorter, torn.no_longer) in
    ext_get_or 0 new (set old at (get_or new at 0)) (same ∙ sym (length-set old at (get_or new at 0))) (λ i below.
    elim (cases_eq i at) [
      | inl here ↦ subst (λ (k : ℕ). get_or new k 0 ≡ get_or (set old at (get_or new at 0)) k 0) (sym here) (sym (get_or-set_same old at (get_or new at 0) 0 inside))
      | inr apart ↦ torn.kept i (omega (arith, same, below)) (beside i at apart) ∙ sym (get_or-set_other old at i (get_or new at 0) 0 apart)
    ])

-- the gate is torn: it is some byte
pub torn_gate : (contents : List Content) (gate : ℕ) (rest old new : List ℕ) → old ≡ front contents ++ gate ∷ rest → Torn (place_behind contents) 1 old new
    → new ≡ front contents ++ get_or new (place_behind contents) 0 ∷ rest
torn_gate contents gate rest old new old_is torn =
    let at : ℕ = place_behind contents in
    let inside : at < length old = omega (arith, ap length old_is, length-append (front contents) (gate ∷ rest)) in
    torn_byte at old new inside torn
    ∙ ap (λ bytes. set bytes at (get_or new at 0)) old_is
    ∙ set_at (front contents) gate rest (get_or new at 0) at (length-front contents)

-- with the gate open the entry behind it counts
pub opened_gate : (contents : List Content) (content : Content) (more bytes : List ℕ) → AllByRecursion IsContent contents → IsContent content
    → bytes ≡ front contents ++ 1 ∷ (body content ++ 0 ∷ more) → IsClosedBehind (contents ++ content ∷ []) bytes
opened_gate contents content more bytes all one is = (
  0,
  more,
  omega arith,
  record {
    each = all-push contents content all one;
    bytes = is
        ∙ sym (append_assoc (front contents) (entry_bytes content) (0 ∷ more))
        ∙ ap (λ es. (format_byte ∷ es) ++ 0 ∷ more) (sym (entries-push contents content));
  },
)

-- the gate is torn while an entry stands behind it: the entry counts or it doesn't
pub old_or_new : (contents : List Content) (content : Content) (gate : ℕ) (more old new : List ℕ) → AllByRecursion IsContent contents → IsContent content
    → old ≡ front contents ++ gate ∷ (body content ++ 0 ∷ more) → Torn (place_behind contents) 1 old new
    → HoldsEntries new contents ⊎ HoldsEntries new (contents ++ content ∷ [])
old_or_new contents content gate more old new all one old_is torn =
    let byte : ℕ = get_or new (place_behind contents) 0 in
    let new_is : new ≡ front contents ++ byte ∷ (body content ++ 0 ∷ more) = torn_gate contents gate (body content ++ 0 ∷ more) old new old_is torn in
    elim (cases_eq byte 1) [
      | inl is_open ↦ inr (inr (opened_gate contents content more new all one (new_is ∙ ap (λ b. front contents ++ b ∷ (body content ++ 0 ∷ more)) is_open)))
      | inr closed ↦ inl (inr (byte, body content ++ 0 ∷ more, closed, record { each = all; bytes = new_is }))
    ]

-- the gate is written open
pub written_gate : (contents : List Content) (gate : ℕ) (rest old new : List ℕ) → old ≡ front contents ++ gate ∷ rest → Written (place_behind contents) (1 ∷ []) old new
    → new ≡ front contents ++ 1 ∷ rest
written_gate contents gate rest old new old_is written =
    let at : ℕ = place_behind contents in
    let taken : take at old ≡ front contents = ap (take at) old_is ∙ take_at (front contents) (gate ∷ rest) at (length-front contents) in
    let left : drop (at + 1) old ≡ rest =
    ap (drop (at + 1)) (old_is ∙ sym (append_assoc (front contents) (gate ∷ []) rest)) ∙ drop_at (front contents ++ gate ∷ []) rest (at + 1) (omega (arith, length-append (front contents) (gate ∷ []))) in
    written ∙ ap (λ p. p ++ (1 ∷ []) ++ drop (at + 1) old) taken ∙ ap (λ r. front contents ++ (1 ∷ []) ++ r) left ∙ append_assoc (front contents) (1 ∷ []) rest

-- both writes together are one of the entry with both gates
pub written_entry : (contents : List Content) (content : Content) (gate : ℕ) (rest old middle new : List ℕ) → old ≡ front contents ++ gate ∷ rest
    → Written (place_behind contents + 1) (body content ++ 0 ∷ []) old middle → Written (place_behind contents) (1 ∷ []) middle new
    → Written (place_behind contents) (entry_bytes content ++ 0 ∷ []) old new
written_entry contents content gate rest old middle new old_is first second =
    let at : ℕ = place_behind contents in
    let more : List ℕ = drop (at + 1 + length (body content ++ 0 ∷ [])) old in
    let taken : take at old ≡ front contents = ap (take at) old_is ∙ take_at (front contents) (gate ∷ rest) at (length-front contents) in
    let size : at + length (entry_bytes content ++ 0 ∷ []) ≡ at + 1 + length (body content ++ 0 ∷ []) = omega arith in
    written_gate contents gate ((body content ++ 0 ∷ []) ++ more) middle new (written_tail contents gate rest (body content ++ 0 ∷ []) old middle old_is first) second
    ∙ sym (append_assoc (front contents) (entry_bytes content ++ 0 ∷ []) more)
    ∙ ap (λ p. p ++ (entry_bytes content ++ 0 ∷ []) ++ more) (sym taken)
    ∙ ap (λ n. take at old ++ (entry_bytes content ++ 0 ∷ []) ++ drop n old) (sym size)
