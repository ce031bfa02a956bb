-- The line of a finding: the number of its record, the host at whose interface that record was made, who
-- broke the rule, the name of the rule, and the words that show it.
use Rattle.std.specs.Prelude.{ℕ, ◌&&◌, ◌||◌, not, Bool, true, false, List, [], ◌++◌, codes, decimal, if◌then◌else◌}
use Rattle.ncp_leader.specs.Fault.{name_of_message_fault}
use Rattle.ncp_play_buffer.specs.Lines.{field, hex_of}
use Rattle.ncp_play_files.specs.Lines.{command_words, bad_words}
use Rattle.ncp_monitor.specs.declared.finding.Finding.{Finding}
use Rattle.ncp_monitor.specs.declared.finding.Rule.{Rule}
use Rattle.ncp_monitor.specs.declared.finding.Rule.TheVariants.{Short, OwnHost, Kind, Fault, WrongLink, WrongSize, Extras, Occupied, Changed, Stray, Unsent, FalseAnswer, Bad, Early, RstAgain, RrpUnasked, Unquiet, RrpFirst, MissingRrp, Missing, Skipped, EcoAgain, ErpUnasked, ErrUnjust, Sex, LinkRange, SizeZero, AskedAgain, Unended, LinkUsed, ClsUnknown, ClsAgain, TextOut, NotOpen, OverLimit, GvbAgain, RetUnasked, RetOther, RetOver, TextNotOpen, TextSize, TextOver}
use Rattle.ncp_monitor.specs.declared.finding.ItemKind.{ItemKind}
use Rattle.ncp_monitor.specs.declared.finding.ItemKind.TheVariants as a
use Rattle.ncp_monitor.specs.declared.finding.Unsent.{Unsent as Why}
use Rattle.ncp_monitor.specs.declared.finding.Unsent.TheVariants.{NotOut, Twice, Altered}
use Rattle.ncp_monitor.specs.declared.finding.Unopened.{Unopened}
use Rattle.ncp_monitor.specs.declared.finding.Unopened.TheVariants as shut
use Rattle.ncp_monitor.specs.declared.finding.Who.{Who}
use Rattle.ncp_monitor.specs.declared.finding.Who.TheVariants.{Host, Imp}

abbrev pub who_words : Who → List ℕ
who_words (Host host) = field (codes " host=") host
who_words Imp = codes " imp"

abbrev pub thing_word : ItemKind → List ℕ
thing_word a.Text = codes "text"
thing_word a.Bad = codes "bad"
thing_word a.Nop = codes "NOP"
thing_word a.Rts = codes "RTS"
thing_word a.Str = codes "STR"
thing_word a.Cls = codes "CLS"
thing_word a.All = codes "ALL"
thing_word a.Gvb = codes "GVB"
thing_word a.Ret = codes "RET"
thing_word a.Inr = codes "INR"
thing_word a.Ins = codes "INS"
thing_word a.Eco = codes "ECO"
thing_word a.Erp = codes "ERP"
thing_word a.Err = codes "ERR"

abbrev pub why_word : Why → List ℕ
why_word NotOut = codes "not-out"
why_word Twice = codes "twice"
why_word Altered = codes "altered"

abbrev pub unopened_word : Unopened → List ℕ
unopened_word shut.NoPair = codes "no-pair"
unopened_word shut.Closed = codes "closed"
unopened_word shut.NotAsked = codes "not-asked"

-- two amounts, and their limits
abbrev pub two_amounts : ℕ → ℕ → List ℕ
two_amounts messages bits = field (codes " messages=") messages ++ field (codes " bits=") bits

abbrev pub two_amounts_of : ℕ → ℕ → ℕ → ℕ → List ℕ
two_amounts_of messages most bits most_bits =
    field (codes " messages=") messages ++ field (codes " of=") most ++ field (codes " bits=") bits ++ field (codes " of=") most_bits

-- 1 if true, else 0
abbrev pub one_where : Bool → ℕ
one_where so = if so then 1 else 0

abbrev pub coming_word : Bool → List ℕ
coming_word came = if came then codes "came" else codes "not-come"

abbrev pub unquiet_word : Bool → List ℕ
unquiet_word reply = if reply then codes "RRP" else codes "RST"

abbrev pub rule_words : Rule → List ℕ
rule_words (Short bits) = field (codes "short bits=") bits
rule_words (OwnHost kind link) = field (codes "own-host type=") kind ++ field (codes " link=") link
rule_words (Kind kind) = field (codes "kind type=") kind
rule_words (Fault fault link) = codes "fault name=" ++ name_of_message_fault fault ++ field (codes " link=") link
rule_words (WrongLink link) = field (codes "wrong-link link=") link
rule_words (WrongSize size) = field (codes "wrong-size size=") size
rule_words (Extras flags low text rest) = field (codes "extras flags=") flags ++ field (codes " low=") low ++ field (codes " text=") text ++ field (codes " rest=") rest
rule_words (Occupied link) = field (codes "occupied link=") link
rule_words (Changed link) = field (codes "changed link=") link
rule_words (Stray kind link) = field (codes "stray type=") kind ++ field (codes " link=") link
rule_words (Unsent host link why) = field (codes "unsent host=") host ++ field (codes " link=") link ++ codes " " ++ why_word why
rule_words (FalseAnswer kind host link came) =
    field (codes "false-answer type=") kind ++ field (codes " host=") host ++ field (codes " link=") link ++ codes " " ++ coming_word came
rule_words (Bad fault) = bad_words fault
rule_words (Early thing began waits owes) =
    codes "early " ++ thing_word thing ++ field (codes " began=") (one_where began) ++ field (codes " wait=") (one_where waits) ++ field (codes " owe=") (one_where owes)
rule_words RstAgain = codes "rst-again"
rule_words RrpUnasked = codes "rrp-unasked"
rule_words (Unquiet reply link) = codes "unquiet " ++ unquiet_word reply ++ field (codes " link=") link
rule_words RrpFirst = codes "rrp-first"
rule_words MissingRrp = codes "missing RRP"
rule_words (Missing c) = codes "missing " ++ command_words c
rule_words (Skipped c) = codes "skipped " ++ command_words c
rule_words (EcoAgain byte) = field (codes "eco-again ECO data=") byte
rule_words (ErpUnasked byte) = field (codes "erp-unasked ERP data=") byte
rule_words (ErrUnjust code bytes) = field (codes "err-unjust ERR code=") code ++ codes " data=" ++ hex_of bytes
rule_words (Sex c) = codes "sex " ++ command_words c
rule_words (LinkRange c) = codes "link-range " ++ command_words c
rule_words (SizeZero c) = codes "size-zero " ++ command_words c
rule_words (AskedAgain c since) = codes "asked-again " ++ command_words c ++ field (codes " since=") since
rule_words (Unended c since) = codes "unended " ++ command_words c ++ field (codes " since=") since
rule_words (LinkUsed c local remote) = codes "link-used " ++ command_words c ++ field (codes " by=") local ++ field (codes ",") remote
rule_words (ClsUnknown c) = codes "cls-unknown " ++ command_words c
rule_words (ClsAgain c since) = codes "cls-again " ++ command_words c ++ field (codes " since=") since
rule_words (TextOut c link) = codes "text-out " ++ command_words c ++ field (codes " link=") link
rule_words (NotOpen c why) = codes "not-open " ++ command_words c ++ codes " " ++ unopened_word why
rule_words (OverLimit c messages bits) = codes "over-limit " ++ command_words c ++ two_amounts_of messages 65535 bits 65536
rule_words (GvbAgain c) = codes "gvb-again " ++ command_words c
rule_words (RetUnasked c) = codes "ret-unasked " ++ command_words c
rule_words (RetOther c messages bits) = codes "ret-other " ++ command_words c ++ two_amounts messages bits
rule_words (RetOver c messages bits) = codes "ret-over " ++ command_words c ++ two_amounts messages bits
rule_words (TextNotOpen link why) = field (codes "text-not-open link=") link ++ codes " " ++ unopened_word why
rule_words (TextSize link size asked) = field (codes "text-size link=") link ++ field (codes " size=") size ++ field (codes " of=") asked
rule_words (TextOver link messages bits most_bits) = field (codes "text-over link=") link ++ two_amounts_of 1 messages bits most_bits

abbrev pub finding_line : ℕ → ℕ → Finding → List ℕ
finding_line number at finding = decimal number ++ field (codes " at=") at ++ who_words finding.who ++ codes " " ++ rule_words finding.rule ++ codes "\n"

-- a rule of the standard (NIC 8246, BBN 1822); the others are this project's profile. That a host begins
-- with an RST is a rule of the profile; what an RST requires of the host that sends it, and of the one
-- that owes the RRP, is a rule of the standard
abbrev pub is_standard : Rule → Bool
is_standard (Short bits) = true
is_standard (OwnHost kind link) = false
is_standard (Kind kind) = false
is_standard (Fault fault link) = true
is_standard (WrongLink link) = true
is_standard (WrongSize size) = true
is_standard (Extras flags low text rest) = false
is_standard (Occupied link) = true
is_standard (Changed link) = false
is_standard (Stray kind link) = true
is_standard (Unsent host link why) = true
is_standard (FalseAnswer kind host link came) = true
is_standard (Bad fault) = true
is_standard (Early thing began waits owes) = began || owes
is_standard RstAgain = false
is_standard RrpUnasked = true
is_standard (Unquiet reply link) = false
is_standard RrpFirst = false
is_standard MissingRrp = false
is_standard (Missing c) = false
is_standard (Skipped c) = false
is_standard (EcoAgain byte) = false
is_standard (ErpUnasked byte) = true
is_standard (ErrUnjust code bytes) = true
is_standard (Sex c) = true
is_standard (LinkRange c) = true
is_standard (SizeZero c) = true
is_standard (AskedAgain c since) = true
is_standard (Unended c since) = true
is_standard (LinkUsed c local remote) = false
is_standard (ClsUnknown c) = true
is_standard (ClsAgain c since) = true
is_standard (TextOut c link) = false
is_standard (NotOpen c why) = true
is_standard (OverLimit c messages bits) = false
is_standard (GvbAgain c) = false
is_standard (RetUnasked c) = false
is_standard (RetOther c messages bits) = false
is_standard (RetOver c messages bits) = true
is_standard (TextNotOpen link why) = true
is_standard (TextSize link size asked) = true
is_standard (TextOver link messages bits most_bits) = true

-- a finding is reported, unless only rules of the standard are asked for and its rule is none
unfoldable pub is_told : Bool → Finding → Bool
is_told standard finding = not (standard && not (is_standard finding.rule))

unfoldable pub reported_line : Bool → ℕ → ℕ → Finding → List ℕ
reported_line standard number at finding = if is_told standard finding then finding_line number at finding else []
