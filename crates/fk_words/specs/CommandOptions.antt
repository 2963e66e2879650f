-- The options of the command lines: their words, and what their values may be.
use Rattle.std.specs.Prelude.{ℕ, Bool, true, false, ◌&&◌, List, [], ◌∷◌, codes, Option, None, if◌then◌else◌}
use Rattle.std.specs.Str.{is_utf8}
use Rattle.fk_base.specs.declared.pair.Pair.{Pair}
use Rattle.fk_base.specs.Address.{ip_in}
use Rattle.fk_values.specs.Settings.{reads_as}
use Rattle.fk_values.specs.Values.{is_host, is_unbroken, number_within, pairs_within, port_in}
use Rattle.fk_base.specs.declared.moment.TheConstants.{LONGEST_TIME}
use Rattle.fk_words.specs.declared.command_option.TheConstants.{GREATEST_LIMIT}
use Rattle.fk_words.specs.declared.tool.Tool.{Tool}
use Rattle.fk_words.specs.declared.tool.Tool.TheVariants.{Daemon, Client, Fko}
use Rattle.fk_words.specs.declared.command_option.CommandOption.{CommandOption}
use Rattle.fk_words.specs.declared.command_option.CommandOption.TheVariants.{Foreground, ConfFile, AccessFile, PacketLimit, TurnLimit, Verbose, Trial, Quiet, FwList, StanzaName, RcFileName, PairList, Address, PacketSource, Server, ServerPort, Seconds, Print, NewKeys}

-- an option: its word, whether a value follows it, and what that may be
pub record OptionRule : Type 0 where
  pub word : List ℕ
  pub has_value : Bool
  pub is_value : List ℕ → Bool

-- an option without a value
abbrev pub flag : List ℕ → OptionRule
flag word = record { word = word; has_value = false; is_value = λ _. false }

-- an option with a value
abbrev pub valued : List ℕ → (List ℕ → Bool) → OptionRule
valued word is_value = record { word = word; has_value = true; is_value = is_value }

-- a list of 1 to 16 pairs in which no blank stands
abbrev pub pairs_unbroken : List ℕ → Option (List Pair)
pairs_unbroken value = if is_unbroken value then pairs_within 16 value else None

-- the most packets or turns of a run
abbrev pub limit_in : List ℕ → Option ℕ
limit_in = number_within 1 GREATEST_LIMIT

-- the table of the options
abbrev pub option_rule : CommandOption → OptionRule
option_rule Foreground = flag (codes "-f")
option_rule ConfFile = valued (codes "-c") is_utf8
option_rule AccessFile = valued (codes "-a") is_utf8
option_rule PacketLimit = valued (codes "-C") (reads_as limit_in)
option_rule TurnLimit = valued (codes "--turns") (reads_as limit_in)
option_rule Verbose = flag (codes "-v")
option_rule Trial = flag (codes "--trial")
option_rule Quiet = flag (codes "-q")
option_rule FwList = flag (codes "--fw-list")
option_rule StanzaName = valued (codes "-n") is_utf8
option_rule RcFileName = valued (codes "--rc-file") is_utf8
option_rule PairList = valued (codes "-A") (reads_as pairs_unbroken)
option_rule Address = valued (codes "-a") (reads_as ip_in)
option_rule PacketSource = flag (codes "-s")
option_rule Server = valued (codes "-D") (λ value. is_host value && is_utf8 value)
option_rule ServerPort = valued (codes "-p") (reads_as port_in)
option_rule Seconds = valued (codes "-f") (reads_as (number_within 1 LONGEST_TIME))
option_rule Print = flag (codes "-T")
option_rule NewKeys = flag (codes "-k")

-- the options of each program; `fko` has none
abbrev pub options_of : Tool → List CommandOption
options_of Daemon = Foreground ∷ ConfFile ∷ AccessFile ∷ PacketLimit ∷ TurnLimit ∷ Verbose ∷ Trial ∷ Quiet ∷ FwList ∷ []
options_of Client =
    StanzaName ∷ RcFileName ∷ PairList ∷ Address ∷ PacketSource ∷ Server ∷ ServerPort ∷ Seconds ∷ Print ∷ NewKeys ∷ []
options_of Fko = []
