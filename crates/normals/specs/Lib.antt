pub mod normal_f64s
