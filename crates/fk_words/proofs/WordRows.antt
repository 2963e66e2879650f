-- Command lines that the definitions read.
use Rattle.std.proofs.Common.{◌≡◌, [], ◌∷◌, Err, Ok, refl}
use Rattle.std.specs.Prelude.{codes}
use Rattle.fk_words.specs.declared.option_set.OptionSet.TheVariants.{Help, KeyGen, SendForAddress}
use Rattle.fk_words.specs.declared.tool.Tool.TheVariants.{Client, Daemon, Fko}
use Rattle.fk_words.specs.declared.word_fault.WordFault.TheVariants.{Modes, NoValue, Twice, Unknown}
use Rattle.fk_words.specs.ReadsWords.{set_read}

no_words : set_read Daemon [] ≡ Err Modes
no_words = refl

client_without_words : set_read Client [] ≡ Ok SendForAddress
client_without_words = refl

trial_twice : set_read Daemon (codes "--trial" ∷ codes "--trial" ∷ []) ≡ Err (Twice 2)
trial_twice = refl

unknown_word : set_read Daemon (codes "--bogus" ∷ []) ≡ Err (Unknown 1)
unknown_word = refl

limit_without_value : set_read Daemon (codes "-C" ∷ []) ≡ Err (NoValue 1)
limit_without_value = refl

surplus_operand : set_read Fko (codes "journal" ∷ codes "x" ∷ []) ≡ Err (Unknown 2)
surplus_operand = refl

missing_operand : set_read Fko (codes "generate" ∷ []) ≡ Err Modes
missing_operand = refl

no_operands : set_read Fko (codes "keygen" ∷ []) ≡ Ok KeyGen
no_operands = refl

help_alone : set_read Client (codes "--help" ∷ []) ≡ Ok Help
help_alone = refl
