-- A refusal that names no place.
-- Assumes nothing.
use Rattle.rules.specs.declared.Refusal.{Refusal}
use Rattle.rules.specs.declared.Refused.{Refused}

-- place 0, and no word
abbrev pub whole : Refusal → Refused
whole refusal = record { refusal = refusal; place = 0; word = 0 }
