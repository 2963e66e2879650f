-- The key and the IV of the cipher, made of a key and a salt by a chain of MD5 digests: what `openssl enc -md md5` does, which
-- is EVP_BytesToKey of OpenSSL with one round.
use Rattle.std.specs.Prelude.{ℕ, zero, suc, List, ◌++◌, take, drop}
use Rattle.md5.specs.Md5.{md5}

-- the digests of the chain: the first of the key and the salt, each further one of the one before it, the key and the salt
unfoldable pub chained_digest : (key salt : List ℕ) → ℕ → List ℕ
chained_digest key salt zero = md5 (key ++ salt)
chained_digest key salt (suc i) = md5 (chained_digest key salt i ++ key ++ salt)

-- the first three digests joined: 48 bytes
abbrev pub key_material : (key salt : List ℕ) → List ℕ
key_material key salt = chained_digest key salt 0 ++ chained_digest key salt 1 ++ chained_digest key salt 2

-- the key of AES-256: the first 32 bytes
unfoldable pub cipher_key : (key salt : List ℕ) → List ℕ
cipher_key key salt = take 32 (key_material key salt)

-- the IV: the next 16 bytes
unfoldable pub initial_vector : (key salt : List ℕ) → List ℕ
initial_vector key salt = take 16 (drop 32 (key_material key salt))
