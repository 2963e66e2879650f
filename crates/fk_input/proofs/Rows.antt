-- Worked rows of the definitions, with the texts as bytes.
use Rattle.std.proofs.Common.{◌≡◌, true, false, [], ◌∷◌, refl}
use Rattle.fk_input.specs.Lines.{pieces, content, passes_limit}

nothing-has_no_piece : pieces [] ≡ []
nothing-has_no_piece = refl

-- a, feed, b
last_line-counts : pieces (97 ∷ 10 ∷ 98 ∷ []) ≡ (97 ∷ 10 ∷ []) ∷ (98 ∷ []) ∷ []
last_line-counts = refl

-- a, feed
nothing-follows_last_feed : pieces (97 ∷ 10 ∷ []) ≡ (97 ∷ 10 ∷ []) ∷ []
nothing-follows_last_feed = refl

-- feed, return, feed
return-belongs_to_line : pieces (10 ∷ 13 ∷ 10 ∷ []) ≡ (10 ∷ []) ∷ (13 ∷ 10 ∷ []) ∷ []
return-belongs_to_line = refl

content-leaves_feed : content (13 ∷ 10 ∷ []) ≡ 13 ∷ []
content-leaves_feed = refl

feed-counts : passes_limit 67108863 (97 ∷ 10 ∷ []) ≡ true
feed-counts = refl

limit-is_within : passes_limit 67108863 (97 ∷ []) ≡ false
limit-is_within = refl
