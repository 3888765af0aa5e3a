-- Worked examples: the text of a record of each kind.
use Rattle.std.specs.Prelude.{ℕ, List, ◌++◌, codes}

abbrev pub port_text : List ℕ
port_text = codes "{\"base\":0,\"cycle\":1000,\"extension\":0,\"gates\":255,\"list\":[[1,300],[128,700]]}"

abbrev pub filter_text : List ℕ
filter_text = codes "{\"gate\":0,\"handle\":7,\"max_sdu\":1500,\"meter\":null,\"oversize\":true,\"priority\":null}"

abbrev pub gate_text : List ℕ
gate_text = codes "{\"base\":0,\"cycle\":2000,\"extension\":0,\"invalid_rx\":false,\"ipv\":null,"
    ++ codes "\"list\":[[true,5,1000,150],[false,null,1000,null]],\"octets_exceeded\":true,\"open\":false}"

abbrev pub meter_text : List ℕ
meter_text = codes "{\"all_red\":false,\"aware\":false,\"cbs\":1500,\"cf\":false,\"cir\":8000000,"
    ++ codes "\"drop_yellow\":false,\"ebs\":0,\"eir\":0}"
