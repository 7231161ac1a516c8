-- What a bad line is called.
use Rattle.std.specs.Prelude.{ℕ, List, codes}
use Rattle.job_script.specs.declared.line_kind.LineKind.{LineKind}
use Rattle.job_script.specs.declared.line_kind.LineKind.TheVariants.{Unknown, Late, Twice, TooMany, Name, Node, Key, NoSub, NoValue, Value, Long, Number, Words, NotLive}

abbrev pub kind_text : LineKind → List ℕ
kind_text Unknown = codes "bad line"
kind_text Late = codes "declaration too late"
kind_text Twice = codes "declared twice"
kind_text TooMany = codes "too many"
kind_text Name = codes "bad name"
kind_text Node = codes "bad node"
kind_text Key = codes "key too long"
kind_text NoSub = codes "subscript missing"
kind_text NoValue = codes "value missing"
kind_text Value = codes "bad value"
kind_text Long = codes "value too long"
kind_text Number = codes "bad number"
kind_text Words = codes "wrong words"
kind_text NotLive = codes "not live"
