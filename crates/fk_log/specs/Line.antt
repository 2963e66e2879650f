-- The lines of a log, as values and as texts.
use Rattle.std.specs.Prelude.{ℕ, min, Bool, true, false, List, [], ◌∷◌, ◌++◌, codes}
use Rattle.std.specs.List.{flat_map, join_with_byte}
use Rattle.std.specs.Fmt.{decimal}
use Rattle.fk_base.specs.Address.{ip_text}
use Rattle.fk_base.specs.PairText.{pair_text}
use Rattle.fk_base.specs.declared.address.Ip4.{Ip4}
use Rattle.fk_base.specs.declared.purpose.Purpose.{Purpose}
use Rattle.fk_base.specs.declared.purpose.Purpose.TheVariants.{Open, Close}
use Rattle.fk_trace.specs.declared.change.OpenRecord.{OpenRecord}
use Rattle.fk_trace.specs.declared.refusal.LogWhy.{LogWhy}
use Rattle.fk_trace.specs.declared.refusal.LogWhy.TheVariants as why
use Rattle.fk_log.specs.declared.tally.Tally.{Tally}
use Rattle.fk_log.specs.declared.usage_fault.UsageFault.{UsageFault}
use Rattle.fk_log.specs.declared.usage_fault.UsageFault.TheVariants as usage

-- one line; a moment comes first
pub data Line : Type 0 where
  -- the live records at the beginning
  ReadyLine : ℕ → Line
  -- the number of the turn
  TurnLine : ℕ → ℕ → Line
  -- what the child was started for, and whether it ended well
  EndedLine : ℕ → Purpose → Bool → Line
  PollFailedLine : ℕ → Purpose → Line
  SettledLine : ℕ → ℕ → Line
  RefusedLine : ℕ → Ip4 → LogWhy → Line
  -- the source, the record, the stanza and the second at which the close is due
  GrantedLine : ℕ → Ip4 → ℕ → ℕ → ℕ → Line
  -- the record, the words, and whether the child began
  OpenedLine : ℕ → ℕ → List (List ℕ) → Bool → Line
  ClosedLine : ℕ → ℕ → List (List ℕ) → Bool → Line
  -- the turns, how many lines of four kinds they have, and the live records at the end
  SummaryLine : ℕ → Tally → ℕ → Line
  -- a live record of a listing
  ListedLine : OpenRecord → Line
  -- the words of the command line are no command
  UsageLine : UsageFault → Line
  -- what is wrong in this line of the file of this name
  BadFileLine : List ℕ → ℕ → List ℕ → Line
  -- this line of a trial's input is none of its grammar
  BadLineLine : ℕ → Line
  -- the limit of a trial's input is passed in this line
  LongInputLine : ℕ → Line
  FileMissingLine : List ℕ → Line
  FileFailedLine : List ℕ → Line
  FeedFailedLine : Line
  DiskFailedLine : Line
  -- the place at which the journal is damaged
  DamagedLine : ℕ → Line
  InputFailedLine : Line

-- a count in 64 bits, which stops at their greatest number
abbrev pub capped : ℕ → ℕ
capped n = min n 18446744073709551615

-- a number in decimal; one that 64 bits don't hold is printed as the greatest that they do
abbrev pub number_text : ℕ → List ℕ
number_text n = decimal (capped n)

abbrev pub purpose_text : Purpose → List ℕ
purpose_text (Open id) = codes "open " ++ number_text id
purpose_text (Close id) = codes "close " ++ number_text id

abbrev pub good_text : Bool → List ℕ
good_text true = codes " good"
good_text false = codes " bad"

abbrev pub why_text : LogWhy → List ℕ
why_text why.Shape = codes "shape"
why_text why.Prefix = codes "prefix"
why_text why.Replay = codes "replay"
why_text why.NoStanza = codes "no-stanza"
why_text why.Expired = codes "expired"
why_text why.Mac = codes "mac"
why_text why.Cipher = codes "cipher"
why_text why.Plain = codes "plain"
why_text why.Kind = codes "kind"
why_text why.Age = codes "age"
why_text why.User = codes "user"
why_text why.Source = codes "source"
why_text why.Port = codes "port"
why_text why.Stale = codes "stale"
why_text why.Full = codes "full"

abbrev pub open_verb : Bool → List ℕ
open_verb true = codes " open "
open_verb false = codes " open-failed "

abbrev pub close_verb : Bool → List ℕ
close_verb true = codes " close "
close_verb false = codes " close-failed "

-- a command's words, joined by one space
abbrev pub words_text : List (List ℕ) → List ℕ
words_text words = join_with_byte 32 words

-- what is wrong with the words of a command line, and at which of them
abbrev pub usage_text : UsageFault → List ℕ
usage_text (usage.Unknown place) = codes "usage unknown " ++ number_text place
usage_text (usage.NoValue place) = codes "usage value " ++ number_text place
usage_text (usage.Twice place) = codes "usage twice " ++ number_text place
usage_text (usage.BadValue place) = codes "usage bad " ++ number_text place
usage_text usage.Modes = codes "usage modes"

-- what is wrong in a line of the file of this name
abbrev pub config_text : List ℕ → ℕ → List ℕ → List ℕ
config_text name line what = codes "config " ++ name ++ codes " " ++ number_text line ++ codes " " ++ what

-- the counts of a summary, without the turns and the live records
abbrev pub tally_text : Tally → List ℕ
tally_text tally =
    codes " opens " ++ number_text tally.opens ++ codes " closes " ++ number_text tally.closes
    ++ codes " settled " ++ number_text tally.settled ++ codes " refused " ++ number_text tally.refused

-- a live record: its number, when it was granted, when its close is due, whom it lets in where, and the words of its close
abbrev pub listed_text : OpenRecord → List ℕ
listed_text item =
    number_text item.id ++ codes " " ++ number_text item.moment ++ codes " " ++ number_text item.due
    ++ codes " " ++ ip_text item.ip ++ codes " " ++ pair_text item.pair ++ codes " " ++ words_text item.close

-- the line without its line feed
abbrev pub line_front : Line → List ℕ
line_front (ReadyLine live) = codes "ready " ++ number_text live
line_front (TurnLine moment number) = number_text moment ++ codes " turn " ++ number_text number
line_front (EndedLine moment purpose good) = number_text moment ++ codes " ended " ++ purpose_text purpose ++ good_text good
line_front (PollFailedLine moment purpose) = number_text moment ++ codes " poll " ++ purpose_text purpose ++ codes " failed"
line_front (SettledLine moment id) = number_text moment ++ codes " settled " ++ number_text id
line_front (RefusedLine moment source refusal) = number_text moment ++ codes " from " ++ ip_text source ++ codes " refused " ++ why_text refusal
line_front (GrantedLine moment source id stanza due) =
    number_text moment ++ codes " from " ++ ip_text source ++ codes " granted " ++ number_text id
    ++ codes " stanza " ++ number_text stanza ++ codes " until " ++ number_text due
line_front (OpenedLine moment id words begun) = number_text moment ++ open_verb begun ++ number_text id ++ codes " " ++ words_text words
line_front (ClosedLine moment id words begun) = number_text moment ++ close_verb begun ++ number_text id ++ codes " " ++ words_text words
line_front (SummaryLine turns tally live) = codes "summary turns " ++ number_text turns ++ tally_text tally ++ codes " live " ++ number_text live
line_front (ListedLine item) = listed_text item
line_front (UsageLine fault) = usage_text fault
line_front (BadFileLine name line what) = config_text name line what
line_front (BadLineLine line) = config_text (codes "input") line (codes "BadLine")
line_front (LongInputLine line) = config_text (codes "input") line (codes "TooLong")
line_front (FileMissingLine name) = codes "file " ++ name ++ codes " missing"
line_front (FileFailedLine name) = codes "file " ++ name ++ codes " failed"
line_front FeedFailedLine = codes "feed failed"
line_front DiskFailedLine = codes "disk failed"
line_front (DamagedLine place) = codes "damaged " ++ number_text place
line_front InputFailedLine = codes "input failed"

-- every line ends with a line feed
abbrev pub line_text : Line → List ℕ
line_text line = line_front line ++ 10 ∷ []

abbrev pub text_of_lines : List Line → List ℕ
text_of_lines lines = flat_map line_text lines
