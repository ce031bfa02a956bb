-- The characters that spell a byte.
use Rattle.std.specs.Prelude.{ℕ, List}
use Rattle.ncp_play_explain.specs.declared.showing.Signs.{Signs}
use Rattle.ncp_play_explain.specs.declared.showing.Signs.TheVariants.{Sign, Number}

abbrev pub signs_of : Signs → List ℕ
signs_of (Sign signs) = signs
signs_of (Number signs) = signs
