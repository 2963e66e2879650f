-- The five hashes, and HMAC over them (RFC 2104).
use Rattle.std.specs.Prelude.{ℕ, ◌-◌, nat_lt, if◌then◌else◌, List, ◌++◌, map, length, replicate, bit_xor}
use Rattle.fk_base.specs.declared.hash_kind.HashKind.{HashKind}
use Rattle.fk_base.specs.declared.hash_kind.HashKind.TheVariants.{Md5, Sha1, Sha256, Sha384, Sha512}
use Rattle.md5.specs.Md5.{md5}
use Rattle.sha1.specs.Sha1.{sha1}
use Rattle.sha2.specs.Sha256.{sha256}
use Rattle.sha2.specs.Sha512.{sha384, sha512}
use Rattle.fk_text.specs.Text.{text_of}

-- The hash of a message: MD5 of RFC 1321, the others of FIPS 180-4. That standard leaves out messages of 2 ^ 61 bytes or more
-- (of 2 ^ 125 for SHA-384 and SHA-512); they are hashed with their length modulo that, as RFC 1321 does for MD5.
unfoldable pub hash_of : HashKind → List ℕ → List ℕ
hash_of Md5 message = md5 message
hash_of Sha1 message = sha1 message
hash_of Sha256 message = sha256 message
hash_of Sha384 message = sha384 message
hash_of Sha512 message = sha512 message

-- B, the length in bytes of the blocks that the hash goes over (RFC 1321, section 3.4; FIPS 180-4, figure 1)
abbrev pub block_len : HashKind → ℕ
block_len Md5 = 64
block_len Sha1 = 64
block_len Sha256 = 64
block_len Sha384 = 128
block_len Sha512 = 128

-- the key, or its hash where it is longer than a block (RFC 2104, section 2)
abbrev pub short_key : HashKind → List ℕ → List ℕ
short_key kind key = if nat_lt (block_len kind) (length key) then hash_of kind key else key

-- K, filled with zeros to a block (RFC 2104, section 2, step 1)
unfoldable pub block_key : HashKind → List ℕ → List ℕ
block_key kind key = short_key kind key ++ replicate (block_len kind - length (short_key kind key)) 0

-- each byte XOR the pad (RFC 2104, section 2, steps 2 and 5)
abbrev pub masked : ℕ → List ℕ → List ℕ
masked pad block = map (λ b. bit_xor b pad) block

-- the byte of ipad
abbrev pub inner_pad : ℕ
inner_pad = 0x36

-- the byte of opad
abbrev pub outer_pad : ℕ
outer_pad = 0x5c

-- HMAC: H(K XOR opad, H(K XOR ipad, message)) (RFC 2104, section 2)
unfoldable pub hmac : HashKind → List ℕ → List ℕ → List ℕ
hmac kind key message =
    hash_of kind (masked outer_pad (block_key kind key) ++ hash_of kind (masked inner_pad (block_key kind key) ++ message))

-- the HMAC as unpadded base64
abbrev pub mac_text : HashKind → List ℕ → List ℕ → List ℕ
mac_text kind key message = text_of (hmac kind key message)

-- the hash by which a datagram is known again: its SHA-256
abbrev pub packet_digest : List ℕ → List ℕ
packet_digest datagram = sha256 datagram
