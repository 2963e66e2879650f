-- The pairs of a ring that are in use at a moment.
use Rattle.std.specs.Prelude.{ℕ, Bool, true, nat_le, List, map}
use Rattle.std.specs.List.{filter}
use Rattle.std.specs.Option.{option_map_or}
use Rattle.fk_base.specs.declared.keys.Keys.{Keys}
use Rattle.fk_access.specs.declared.key_ring.TimedKeys.{TimedKeys}

-- the pair has no last moment, or the moment is at most that
abbrev pub is_current : ℕ → TimedKeys → Bool
is_current moment timed = option_map_or (λ last. nat_le moment last) timed.until true

-- the keys of those that are, in the order of the file
abbrev pub current_keys : ℕ → List TimedKeys → List Keys
current_keys moment ring = map (λ timed. timed.keys) (filter (is_current moment) ring)
