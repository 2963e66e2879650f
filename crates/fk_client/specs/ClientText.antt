-- What a client prints.
use Rattle.std.specs.Prelude.{ℕ, ◌-◌, ◌%◌, List, [], ◌∷◌, ◌++◌, codes, drop, length, replicate, take}
use Rattle.std.specs.List.{flat_map}
use Rattle.std.specs.Fmt.{decimal}
use Rattle.fk_text.specs.Text.{text_of}
use Rattle.fk_client.specs.declared.need_fault.NeedFault.{NeedFault}
use Rattle.fk_client.specs.declared.need_fault.NeedFault.TheVariants as need
use Rattle.fk_client.specs.declared.sent.Packet.{Packet}

-- texts one behind the other, and a line feed
abbrev pub line_of_pieces : List (List ℕ) → List ℕ
line_of_pieces pieces = flat_map (λ piece. piece) pieces ++ 10 ∷ []

-- the name of what is needed; want of memory has none
abbrev pub need_name : NeedFault → List ℕ
need_name need.NoStanza = codes "NoStanza"
need_name need.NoServer = codes "NoServer"
need_name need.NoAccess = codes "NoAccess"
need_name need.NoAllow = codes "NoAllow"
need_name need.NoKey = codes "NoKey"
need_name need.NoHmacKey = codes "NoHmacKey"
need_name need.NoMemory = []

-- what the file of this name does not give
abbrev pub need_text : List ℕ → List ℕ → List ℕ
need_text name what = line_of_pieces (codes "config " ∷ name ∷ codes " need " ∷ what ∷ [])

abbrev pub entropy_text : List ℕ
entropy_text = line_of_pieces (codes "entropy failed" ∷ [])

abbrev pub link_text : List ℕ
link_text = line_of_pieces (codes "link failed" ∷ [])

-- how long a datagram was, and where it went
abbrev pub sent_line : List ℕ → List ℕ → List ℕ → List ℕ
sent_line len server port = line_of_pieces (codes "sent " ∷ len ∷ codes " bytes to " ∷ server ∷ codes " port " ∷ port ∷ [])

-- a packet that was sent
abbrev pub sent_text : Packet → List ℕ
sent_text packet = sent_line (decimal (length packet.datagram)) packet.server (decimal packet.port)

-- the datagram of a packet that is shown and not sent
abbrev pub shown_text : Packet → List ℕ
shown_text packet = line_of_pieces (packet.datagram ∷ [])

-- what fills the last four letters of the base64 of so many bytes (RFC 4648, section 4): `=` is 61
abbrev pub padding_of : ℕ → List ℕ
padding_of count = replicate ((3 - count % 3) % 3) 61

-- base64 with its padding
abbrev pub padded_text : List ℕ → List ℕ
padded_text bytes = text_of bytes ++ padding_of (length bytes)

-- new keys, as both files take them: the first 32 bytes for the cipher, the others for the HMAC
abbrev pub keys_text : List ℕ → List ℕ
keys_text drawn =
    codes "KEY_BASE64: " ++ padded_text (take 32 drawn) ++ codes "\nHMAC_KEY_BASE64: " ++ padded_text (drop 32 drawn) ++ codes "\n"
