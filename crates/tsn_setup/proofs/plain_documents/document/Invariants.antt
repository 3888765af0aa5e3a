use denote.Text.{Utf8}
use denote.Shadow.{shadow}
use Rattle.tsn_setup.specs.Plain.{ReadsDocument}
use Rattle.tsn_setup.specs.PlainTrays.{document_trays}
use Rattle.tsn_setup.proofs.plain_documents.document.Given as goal

abbrev pub invariant-tables : goal.invariant-tables
invariant-tables l = shadow (Utf8 l.rest) × ReadsDocument l.fn.text (document_trays l.limits l.all) l.rest
