-- Which of the areas One and Two the bytes of Head select.
use Rattle.std.specs.Prelude.{ℕ, ◌%◌, ◌==◌, List, [], ◌∷◌, if◌then◌else◌}
use Rattle.fk_host.specs.declared.disk.Area.{Area}
use Rattle.fk_host.specs.declared.disk.Area.TheVariants.{Head, One, Two}

-- One where Head is empty or its first byte is even, Two otherwise; what stands behind that byte says nothing
abbrev pub area_by : List ℕ → Area
area_by [] = One
area_by (byte ∷ rest) = if byte % 2 == 0 then One else Two

-- the area into which the entries of this one are copied
abbrev pub other_area : Area → Area
other_area Head = Two
other_area One = Two
other_area Two = One

-- the byte that is written to Head, so that it selects this area
abbrev pub head_byte : Area → ℕ
head_byte Head = 0
head_byte One = 0
head_byte Two = 1
