-- Which line a log item is.
use Rattle.fk_log.specs.declared.item.LogItem.{LogItem}
use Rattle.fk_log.specs.declared.item.LogItem.TheVariants as item
use Rattle.fk_log.specs.Line.{Line}
use Rattle.fk_log.specs.Line.Line.{ReadyLine, TurnLine, EndedLine, PollFailedLine, SettledLine, RefusedLine, GrantedLine, OpenedLine, ClosedLine, SummaryLine, ListedLine, UsageLine, BadFileLine, BadLineLine, LongInputLine, FileMissingLine, FileFailedLine, FeedFailedLine, DiskFailedLine, DamagedLine, InputFailedLine}

-- the line that the item is printed as
abbrev pub line_of : LogItem → Line
line_of (item.Ready live) = ReadyLine live
line_of (item.Turn moment number) = TurnLine moment number
line_of (item.Ended moment purpose good) = EndedLine moment purpose good
line_of (item.PollFailed moment purpose) = PollFailedLine moment purpose
line_of (item.Settled moment id) = SettledLine moment id
line_of (item.Refused moment source why) = RefusedLine moment source why
line_of (item.Granted moment source id stanza due) = GrantedLine moment source id stanza due
line_of (item.Opened moment id words begun) = OpenedLine moment id words.now begun
line_of (item.Closed moment id words begun) = ClosedLine moment id words.now begun
line_of (item.Summary turns tally live) = SummaryLine turns tally live
line_of (item.Listed listed) = ListedLine listed.now
line_of (item.Usage fault) = UsageLine fault
line_of (item.BadFile name line what) = BadFileLine name.now line what.now
line_of (item.BadLine line) = BadLineLine line
line_of (item.LongInput line) = LongInputLine line
line_of (item.FileMissing name) = FileMissingLine name.now
line_of (item.FileFailed name) = FileFailedLine name.now
line_of item.FeedFailed = FeedFailedLine
line_of item.DiskFailed = DiskFailedLine
line_of (item.Damaged place) = DamagedLine place
line_of item.InputFailed = InputFailedLine
