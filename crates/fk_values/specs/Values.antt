-- What the values of the configuration files are.
use Rattle.std.specs.Prelude.{ℕ, Bool, true, false, ◌&&◌, ◌||◌, nat_le, not, List, [], ◌∷◌, length, map, codes, find, Option, Some, None, is_some, if◌then◌else◌}
use Rattle.std.specs.List.{list_all}
use Rattle.std.specs.Option.{option_and_then, option_map}
use Rattle.std.specs.Str.{bytes_eq, str_to_ascii_lowercase}
use Rattle.fk_base.specs.declared.hash_kind.HashKind.{HashKind}
use Rattle.fk_base.specs.declared.hash_kind.HashKind.TheVariants.{Md5, Sha1, Sha256, Sha384, Sha512}
use Rattle.fk_base.specs.declared.pair.Pair.{Pair}
use Rattle.fk_base.specs.Address.{ip_in}
use Rattle.fk_base.specs.Characters.{is_blank}
use Rattle.fk_base.specs.Decimal.{number_in}
use Rattle.fk_base.specs.HashKind.{hash_kinds}
use Rattle.fk_base.specs.PairText.{pair_in}
use Rattle.fk_base.specs.Parts.{parts_at}
use Rattle.fk_text.specs.Found.{bytes_in}
use Rattle.fk_lines.specs.Lines.{trim_front, without_last}

-- a decimal, from `least` to `most`
abbrev pub number_within : ℕ → ℕ → List ℕ → Option ℕ
number_within least most text = option_and_then (λ n. if nat_le least n then Some n else None) (number_in most text)

-- a port
abbrev pub port_in : List ℕ → Option ℕ
port_in = number_within 1 65535

-- a flag is `Y` or `N`
abbrev pub flag_in : List ℕ → Option Bool
flag_in text = if bytes_eq text (codes "Y") then Some true else (if bytes_eq text (codes "N") then Some false else None)

abbrev pub hash_name : HashKind → List ℕ
hash_name Md5 = codes "MD5"
hash_name Sha1 = codes "SHA1"
hash_name Sha256 = codes "SHA256"
hash_name Sha384 = codes "SHA384"
hash_name Sha512 = codes "SHA512"

-- a hash is named in upper case letters or in lower case letters throughout
abbrev pub names_hash : List ℕ → HashKind → Bool
names_hash text kind = bytes_eq text (hash_name kind) || bytes_eq text (str_to_ascii_lowercase (hash_name kind))

-- the hash that a text names
abbrev pub hash_in : List ℕ → Option HashKind
hash_in text = find (names_hash text) hash_kinds

-- from one byte to so many
abbrev pub has_len_within : ℕ → List ℕ → Bool
has_len_within most text = nat_le 1 (length text) && nat_le (length text) most

-- a key has 1 to 128 bytes
abbrev pub key_in : List ℕ → Option (List ℕ)
key_in text = if has_len_within 128 text then Some text else None

-- the text without up to two `=` (61) at its end
abbrev pub without_padding : List ℕ → List ℕ
without_padding text = without_last 61 (without_last 61 text)

-- the key whose base64 a text is (RFC 4648, section 4), with padding or without
unfoldable pub base64_key_in : List ℕ → Option (List ℕ)
base64_key_in text = option_and_then key_in (bytes_in (without_padding text))

-- the items in the parts between commas: behind each comma there may be blanks
abbrev pub items_of_parts : List (List ℕ) → List (List ℕ)
items_of_parts [] = []
items_of_parts (first ∷ others) = first ∷ map trim_front others

-- the items of a list, between its commas (44)
abbrev pub items_of : List ℕ → List (List ℕ)
items_of text = items_of_parts (parts_at 44 text)

-- an address, or an address and the number of the net's bits, from 0 to 32
abbrev pub are_net_parts : List (List ℕ) → Bool
are_net_parts (address ∷ []) = is_some (ip_in address)
are_net_parts (address ∷ bits ∷ []) = is_some (ip_in address) && is_some (number_in 32 bits)
are_net_parts _ = false

-- the text of a net, in which a slash (47) stands before the bits: by `nets_are_found` that of some net
abbrev pub is_net_text : List ℕ → Bool
is_net_text text = are_net_parts (parts_at 47 text)

-- the values, where there are all
abbrev pub all_of : {X : Type 0} → List (Option X) → Option (List X)
all_of [] = Some []
all_of (None ∷ others) = None
all_of (Some x ∷ others) = option_map (λ xs. x ∷ xs) (all_of others)

-- from one item to so many
abbrev pub has_items_within : ℕ → List (List ℕ) → Bool
has_items_within most items = nat_le 1 (length items) && nat_le (length items) most

-- the pairs of items, of which there are so many at most
abbrev pub pairs_of_items : ℕ → List (List ℕ) → Option (List Pair)
pairs_of_items most items = if has_items_within most items then all_of (map pair_in items) else None

-- a list of so many pairs at most
abbrev pub pairs_within : ℕ → List ℕ → Option (List Pair)
pairs_within most value = pairs_of_items most (items_of value)

-- no space and no tab stands in the text
abbrev pub is_unbroken : List ℕ → Bool
is_unbroken text = list_all (λ byte. not (is_blank byte)) text

-- the address or the name of a host: 1 to 255 bytes without a blank
abbrev pub is_host : List ℕ → Bool
is_host text = has_len_within 255 text && is_unbroken text

-- the host that a text names
abbrev pub host_in : List ℕ → Option (List ℕ)
host_in text = if is_host text then Some text else None
