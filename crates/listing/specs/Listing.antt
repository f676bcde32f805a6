-- Document 01, module 5, and display.rs (source document 001): the text of a section, and the listing of a list of sections. The lines
-- themselves are defined in lines, specs Lines. Reads nothing of any table or pass. Assumes nothing.
use Rattle.std.specs.Prelude.{ℕ, List, [], ◌∷◌, ◌++◌}
use Rattle.records.specs.Sections.{Section, mark, ops, bytes, reference}
use Rattle.lines.specs.Lines.{mark_line, ops_lines, data_line, reference_line}

-- the lines of a section
abbrev pub section_text : Section → List ℕ
section_text (mark n) = mark_line n
section_text (ops code) = ops_lines code
section_text (bytes bs) = data_line bs
section_text (reference r) = reference_line r

-- the lines of every section, in order
unfoldable pub listing : List Section → List ℕ
listing [] = []
listing (s ∷ rest) = section_text s ++ listing rest
