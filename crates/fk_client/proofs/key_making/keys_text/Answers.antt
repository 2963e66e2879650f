use Rattle.std.proofs.Common.{◌≡◌, List, ℕ, ◌++◌, take, drop, ap, ◌∙◌}
use Rattle.std.specs.Prelude.{codes}
use Rattle.fk_client.specs.ClientText.{padded_text}
use Rattle.fk_client.proofs.key_making.keys_text.Goals as goal

joined : (drawn text key mac_key first second third last : List ℕ) → text ≡ codes "KEY_BASE64: " → key ≡ padded_text (take 32 drawn)
    → mac_key ≡ padded_text (drop 32 drawn) → first ≡ text ++ key → second ≡ first ++ codes "\nHMAC_KEY_BASE64: " → third ≡ second ++ mac_key
    → last ≡ third ++ codes "\n"
    → last ≡ codes "KEY_BASE64: " ++ padded_text (take 32 drawn) ++ codes "\nHMAC_KEY_BASE64: " ++ padded_text (drop 32 drawn) ++ codes "\n"
joined drawn text key mac_key first second third last t k m one two three four =
    four ∙ ap (λ x. x ++ codes "\n") (three ∙ ap (λ x. second ++ x) m
    ∙ ap (λ x. x ++ padded_text (drop 32 drawn)) (two ∙ ap (λ x. x ++ codes "\nHMAC_KEY_BASE64: ") (one ∙ ap (λ x. x ++ key) t ∙ ap (λ x. codes "KEY_BASE64: " ++ x) k)))

pub returns : goal.returns
returns c =
    joined c.args.drawn.now c.in_ok-text.text c.as_slice.result.now c.as_slice-2.result.now c.append.new.self c.append-2.new.self c.append-3.new.self c.append-4.new.self
    c.in_ok-text.ensures (c.as_slice.ensures ∙ c.in_ok-key.ensures ∙ ap padded_text c.cipher_key.ensures)
    (c.as_slice-2.ensures ∙ c.in_ok-mac_key.ensures ∙ ap padded_text c.hmac_key.ensures)
    c.in_ok-append.ensures.ok c.in_ok-append-2.ensures.ok c.in_ok-append-3.ensures.ok c.in_ok-append-4.ensures.ok
